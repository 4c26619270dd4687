-- What pick answers of what the search found on a board. Assumes nothing.
use mathlib.Core.Path.{◌≡◌, refl, sym, subst, ◌∙◌}
use mathlib.Core.Bool.{Bool, true, false, ◌&&◌}
use mathlib.Core.List.{List}
use Prim.Native.Nat.{ℕ, ◌+◌, ◌*◌, ◌^◌, ◌≤◌, ◌<◌}
use lib.Dec.{leb}
use lib.ListN.{length, take}
use Rattle.paper.specs.Answers.{Answer, refused, good}
use Rattle.paper.specs.Choices.{Board, how_many, acceptable, FirstOf}
use Rattle.paper.specs.Operations.{named, wanted, PickOn, packed, in_room, Reply, Leaves}
use Rattle.paper.proofs.Bools.{never}
use Rattle.paper.proofs.EmptyChoice.{empty_acceptable}
use Rattle.paper.proofs.Picks.{searched_on, search_picks}
use Rattle.offers.specs.declared.Offers.{Offers}
use Rattle.std.specs.Prelude.{Option, Some, None}
use Rattle.ends_masks.specs.Seating.{Stands}
use Rattle.ends_masks.specs.declared.Ends.{Ends}
use Rattle.pick_rules.specs.Rules.{holds}
use Rattle.pick_rules.proofs.Rows.{passes-holds}
use Rattle.pick_bounds.specs.declared.Wanted.{Wanted}
use Rattle.pick_bounds.specs.Net.{passes, net_of, held}
use Rattle.pick_bounds.proofs.Rules.{first-same}
use Rattle.pick_search.specs.Searching.{Answers}
use Rattle.choice.specs.Choice.{numbers}
use Rattle.choice.proofs.Laws.{taken-numbers}
use Rattle.pick.specs.Picking.{Answered}

-- ---- what the search answers, of tests that agree
pub answers_holds : (net : List ℕ) (k : ℕ) → 20 + 4 * k ≤ length net → (want : Wanted) (n : ℕ) (f : Option ℕ) → Answers (net_of (take (20 + 4 * k) net) want) n f
    → Answered (λ c. holds net k n c && leb want.least (held n c want.ends)) n f
unfolding Answers Answered
answers_holds net k room want n (Some c) a =
    first-same (passes n (net_of (take (20 + 4 * k) net) want)) (λ c. holds net k n c && leb want.least (held n c want.ends)) n (λ x g. passes-holds net k room want n x) c a
answers_holds net k room want n None a = λ x g. sym (passes-holds net k room want n x) ∙ a x g

pub answered_same : (p q : ℕ → Bool) (m : ℕ) → ((c : ℕ) → p c ≡ q c) → (f : Option ℕ) → Answered p m f → Answered q m f
unfolding Answered
answered_same p q m h (Some c) a = first-same p q m (λ x g. h x) c a
answered_same p q m h None a = λ x g. sym (h x) ∙ a x g

pub found-on : (d : Board) (i n : ℕ) → n ≡ how_many d → (p : ℕ → Bool) → ((c : ℕ) → p c ≡ wanted d i c) → (f : Option ℕ) → Answered p n f → Answered (wanted d i) (how_many d) f
found-on d i n e p h f a = subst (λ (x : ℕ). Answered (wanted d i) x f) e (answered_same p (wanted d i) n h f a)

-- ---- on a board
module _ (d : Board) (i : ℕ) (e : acceptable d 0 ≡ true) where
  -- if no set is wanted, a node is named: with none named the empty choice is wanted
  must_name : ((x : ℕ) → x < 2 ^ how_many d → wanted d i x ≡ false) → named i ≡ true
  must_name h = by (searched_on (good d) i) (search_picks d i (λ u. e))
    where
      by : (a : Answer (List ℕ)) → PickOn d i a → named i ≡ true
      by (refused k p) s = s.2.is-named
      by (good ks) s = never (wanted d i s.0) s.1.passes (h s.0 s.1.is_set)

  -- row 13
  pub leaves_none : (f : Option ℕ) → f ≡ None → Answered (wanted d i) (how_many d) f → (w : ℕ) (out : List ℕ) → w ≡ packed 13 i 0 → Leaves (PickOn d i) w out out
  unfolding Answered
  leaves_none f q a w out h =
      let n : (x : ℕ) → x < 2 ^ how_many d → wanted d i x ≡ false = rw q at a in
      record { answer = refused 13 i; allowed = (refl, refl, record { is-named = must_name n; none-wanted = n }); reply = (h, refl) }

-- the first choice, and its ends' numbers
pub leaves_choice : (d : Board) (i : ℕ) (f : Option ℕ) (c n : ℕ) → f ≡ Some c → n ≡ how_many d → Answered (wanted d i) (how_many d) f
    → (w : ℕ) (out after : List ℕ) → Reply (in_room (length out) (good (numbers c n))) w out after → Leaves (PickOn d i) w out after
unfolding Answered
leaves_choice d i f c n q e a w out after h =
    let a : FirstOf (wanted d i) (how_many d) c = rw q at a in
    record { answer = good (numbers c n); allowed = (c, a, taken-numbers d c n e); reply = h }

-- ---- a board whose stocks are within upper
pub fits_empty : {t : List ℕ} {d : Board} {o : Offers} {es : Ends} {runs stock : List ℕ} → Stands t d o es runs stock → acceptable d 0 ≡ true
fits_empty {d = d} s = empty_acceptable d (rw s.seated.table_is s.roomy)
