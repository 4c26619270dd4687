-- What is known of the ends of a board whose marking came as bytes: their edges, and their values, which have four bytes. Assumes nothing.
use mathlib.Core.Path.{◌≡◌, refl, ◌∙◌}
use Prim.Native.Nat.{ℕ, zero, suc, ◌^◌, ◌<◌}
use mathlib.Core.Bool.{Bool, true, false}
use mathlib.Core.List.{List, [], ◌∷◌}
use mathlib.Core.Option.{Option, none, some}
use lib.Dec.{leb}
use Rattle.paper.specs.Lists.{at}
use Rattle.paper.specs.Answers.{good}
use Rattle.paper.specs.Table.{edges, kind, source, is_object_node}
use Rattle.paper.specs.Marking.{Marking, counted}
use Rattle.paper.specs.Offers.{Offer, first, last_edge, value, or_else, firsts, offers_on, offers, Terms, goes_over}
use Rattle.paper.specs.Choices.{Board, board}
use Rattle.paper.proofs.Bytes.{Bytes, never_some}
use Rattle.paper.proofs.Members.{In, snoc_some}
use Rattle.paper.proofs.Origins.{Handed, starts, extends, joins, Way, alone, beside, on_none, on_view, in_offers}
use Rattle.paper.proofs.Values.{one-is}
use Rattle.paper.proofs.Ends.{in_ends}
use Rattle.paper.proofs.OneMarking.{read-is-good}
use Rattle.paper.proofs.Boards.{board-good}
use Rattle.paper.proofs.Sizes.{end-sizes}

-- ---- a value that is offered stood in the marking
abbrev pub Small : Option ℕ → Type 0
Small v = (n : ℕ) → v ≡ some n → n < 2 ^ 32

way_small : (t : List ℕ) (on : ℕ → List Offer) → ((j : ℕ) (o : Offer) → In o (on j) → Small (value o)) → {js : List ℕ} {w : Offer} → Way t on js w → Small (value w)
unfolding value
way_small t on h (alone {j = j} {o = o} k) = h j o k
way_small t on h (beside {j = j} {o = o} {w = w} k r c) = by (value o) (value w) (h j o k) (way_small t on h r)
  where
    by : (v w : Option ℕ) → Small v → Small w → Small (or_else v w)
    by none w a b = b
    by (some v) w a b = a

module _ (t : List ℕ) (goes : ℕ → Option ℕ → Bool) (m : Marking) (words : (i k : ℕ) → at (m.stock i) k < 2 ^ 32) where
  first_small : (e : ℕ) (v : Option ℕ) → firsts t m e ≡ first e v ∷ [] → Small v
  unfolding firsts
  first_small e v f n s = by (counted t e) refl (leb 1 (m.tokens e)) refl (is_object_node (kind t (source t e))) refl (m.stock (source t e)) refl
    where
      by : (b : Bool) → counted t e ≡ b → (c : Bool) → leb 1 (m.tokens e) ≡ c → (d : Bool) → is_object_node (kind t (source t e)) ≡ d → (vs : List ℕ) → m.stock (source t e) ≡ vs → n < 2 ^ 32
      by true p true q d k vs r = let g : first e none ∷ [] ≡ first e v ∷ [] = rw (p, q) at f in never_some (one-is g ∙ s)
      by true p false q d k vs r = let g : [] ≡ first e v ∷ [] = rw (p, q) at f in snoc_some [] (first e v) g
      by false p c q false k vs r = let g : [] ≡ first e v ∷ [] = rw (p, k) at f in snoc_some [] (first e v) g
      by false p c q true k [] r = let g : [] ≡ first e v ∷ [] = rw (p, k, r) at f in snoc_some [] (first e v) g
      by false p c q true k (w ∷ vs) r =
          let g : first e (some w) ∷ [] ≡ first e v ∷ [] = rw (p, k, r) at f in
          let z : some w ≡ some n = one-is g ∙ s in
          let y : w ≡ n = cc in
          let u : at (w ∷ vs) 0 < 2 ^ 32 = rw r at (words (source t e) 0) in
          rw y at u

  value-small : (n e : ℕ) {o : Offer} → In o (offers_on t goes m n e) → Small (value o)
  unfolding value
  value-small zero e k = absurd (on_none t goes m e k)
  value-small (suc n) e k = by (on_view t goes m n e k) (λ j o i. value-small n j i)
    where
      by : {o : Offer} → Handed t m (offers_on t goes m n) e o → ((j : ℕ) (o : Offer) → In o (offers_on t goes m n j) → Small (value o)) → Small (value o)
      by (starts {v = v} c f) ih = first_small e v f
      by (extends {j = j} {o = o} c d i k) ih = ih j o k
      by (joins c d y) ih = way_small t (offers_on t goes m n) ih y

-- ---- the ends of a board
pub record EndFacts (t : List ℕ) (o : Offer) : Type 0 where
  pub edge : last_edge o < edges t
  pub small : Small (value o)

pub end_facts : (t b : List ℕ) (w : Terms) (d : Board) → Bytes b → board t b w ≡ good d → (o : Offer) → In o d.all_ends → EndFacts t o
end_facts t b w d u h o k =
    let f = board-good t b w d h in
    let i = (in_ends t (offers t (goes_over w) d.current) (rw f.facts.is-ends at k)).0 in
    let r = in_offers t (goes_over w) d.current i in
    let m = (read-is-good t b d.current u f.is_read).0 in
    record { edge = (end-sizes t b w d h o k).edge; small = value-small t (goes_over w) d.current m.values 16 r.0 r.2 }
