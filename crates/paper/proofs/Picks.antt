-- Pick: two answers that its relation allows are equal, and the search meets it. Assumes nothing.
use mathlib.Core.Path.{◌≡◌, refl, sym, ap, ◌∙◌}
use Prim.Native.Nat.{ℕ, ◌^◌, ◌<◌}
use native.Mathlib.Nat.{zero-add, mod-one}
use mathlib.Core.Bool.{true, false}
use mathlib.Core.Logic.{⊎_elim}
use mathlib.Core.List.{List}
use lib.Pow.{pow_pos}
use mathlib.Core.Option.{Option, none, some}
use Rattle.paper.specs.Answers.{Answer, refused, good}
use Rattle.paper.specs.Offers.{Terms}
use Rattle.paper.specs.Choices.{Board, board, how_many, taken, acceptable}
use Rattle.paper.specs.Operations.{named, wanted, PickOn, PickIf, Pick}
use Rattle.paper.proofs.Bools.{never, true_or_false}
use Rattle.paper.proofs.Choices.{first_unique}
use Rattle.paper.proofs.Search.{look, look_first, Finds, found_first}

on_unique : (d : Board) (n : ℕ) (a b : Answer (List ℕ)) → PickOn d n a → PickOn d n b → a ≡ b
on_unique d n (refused k p) (refused l q) h i = cc (h.0, h.1, i.0, i.1)
on_unique d n (refused k p) (good b) h i = never (wanted d n i.0) i.1.passes (h.2.none-wanted i.0 i.1.is_set)
on_unique d n (good a) (refused l q) h i = never (wanted d n h.0) h.1.passes (i.2.none-wanted h.0 h.1.is_set)
on_unique d n (good a) (good b) h i =
    let e = first_unique h.0 i.0 h.1 i.1 in
    ap good (h.2 ∙ ap (taken d) e ∙ sym i.2)

if_unique : (r : Answer Board) (n : ℕ) (a b : Answer (List ℕ)) → PickIf r n a → PickIf r n b → a ≡ b
if_unique (refused k p) n a b h i = h ∙ sym i
if_unique (good d) n a b h i = on_unique d n a b h i

pub pick_unique : (t b : List ℕ) (w : Terms) (n : ℕ) (x y : Answer (List ℕ)) → Pick t b w n x → Pick t b w n y → x ≡ y
unfolding Pick
pick_unique t b w n x y h i = if_unique (board t b w) n x y h i

-- ---- the search, on a board and on bytes; it computes, so worked cases can be tried
abbrev pub answer : Board → ℕ → Option ℕ → Answer (List ℕ)
answer d n none = refused 13 n
answer d n (some c) = good (taken d c)

abbrev pub searched_on : Answer Board → ℕ → Answer (List ℕ)
searched_on (refused k p) n = refused k p
searched_on (good d) n = answer d n (look (wanted d n) (how_many d) 0 0)

unfoldable pub searched : List ℕ → List ℕ → Terms → ℕ → Answer (List ℕ)
searched t b w n = searched_on (board t b w) n

-- where no node is named, an acceptable choice is wanted
pub any-wanted : (d : Board) (n c : ℕ) → named n ≡ false → acceptable d c ≡ true → wanted d n c ≡ true
unfolding wanted
any-wanted d n c e h = rw (e, h)

none_named : (d : Board) (n : ℕ) → (named n ≡ false → acceptable d 0 ≡ true) → ((x : ℕ) → x < 2 ^ how_many d → wanted d n x ≡ false) → named n ≡ true
none_named d n h f =
    ⊎_elim (λ e. e) (λ e. never (wanted d n 0) (any-wanted d n 0 e (h e)) (f 0 (pow_pos (how_many d)))) (true_or_false (named n))

found-answer : (d : Board) (n : ℕ) → (named n ≡ false → acceptable d 0 ≡ true) → (o : Option ℕ) → Finds (wanted d n) (how_many d) 0 0 o → PickOn d n (answer d n o)
found-answer d n h none f =
    let g : (x : ℕ) → x < 2 ^ how_many d → wanted d n x ≡ false = λ x l. f x (rw (zero-add (how_many d)) l) (mod-one x) in
    (refl, refl, record { is-named = none_named d n h g; none-wanted = g })
found-answer d n h (some c) f = (c, found_first (wanted d n) (how_many d) c f, refl)

-- the search meets the relation, if the empty choice is acceptable where no node is named
pub search_picks : (d : Board) (n : ℕ) → (named n ≡ false → acceptable d 0 ≡ true) → PickOn d n (searched_on (good d) n)
search_picks d n h = found-answer d n h (look (wanted d n) (how_many d) 0 0) (look_first (wanted d n) (how_many d))

-- the empty choice is acceptable on the board that was made, if one was
abbrev pub EmptyFine : Answer Board → Type 0
EmptyFine (refused k p) = Unit {0}
EmptyFine (good d) = acceptable d 0 ≡ true

if_searched : (r : Answer Board) (n : ℕ) → EmptyFine r → PickIf r n (searched_on r n)
if_searched (refused k p) n h = refl
if_searched (good d) n h = search_picks d n (λ e. h)

pub searched_picks : (t b : List ℕ) (w : Terms) (n : ℕ) → EmptyFine (board t b w) → Pick t b w n (searched t b w n)
unfolding Pick searched
searched_picks t b w n h = if_searched (board t b w) n h
