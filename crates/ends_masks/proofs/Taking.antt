-- What a choice takes, as rows: its ends, their makers, and what is spent. Assumes nothing.
use mathlib.Core.Path.{◌≡◌, refl, sym, ap, ◌∙◌}
use Prim.Native.Nat.{ℕ, ◌<◌}
use native.Mathlib.Omega.{arith}
use mathlib.Core.Bool.{Bool, true, false, ◌&&◌, and_assoc}
use mathlib.Core.Logic.{⊎_elim}
use mathlib.Core.List.{List, []}
use lib.Dec.{eqb}
use lib.ListN.{length}
use borrow.Author.Tests.{eq-eqb, ne_eqb}
use Rattle.paper.specs.Lists.{at, has, below, any, count, keep}
use Rattle.paper.specs.Offers.{Offer, first, over, with, parts, last_edge, makers, origins, elem, same, is_first}
use Rattle.paper.specs.Choices.{Board, how_many, end, taken, taken_ends, taken_makers, spent}
use Rattle.paper.proofs.Bools.{never, and-true, and_both, iff}
use Rattle.paper.proofs.Members.{In, here, later, in-none, in_one, in-cons, in-append, append_left, append_right, in_gather, in_each, in_keep, any_in, in_any, in_below, below_in}
use Rattle.paper.proofs.Counts.{any-keep, count-keep, count-below-same}
use Rattle.paper.proofs.Sameness.{elem_in, in_elem}
use Rattle.paper.proofs.Bits.{no_digit}
use Rattle.paper.proofs.Digits.{has-zero}
use Rattle.offers.specs.Sets.{nth, Means}
use Rattle.offers.specs.Rows.{is_offer}
use Rattle.offers.specs.Struct.{Beside, rows_of}
use Rattle.offers.specs.declared.Offers.{Offers}
use Rattle.ends_masks.specs.declared.Ends.{Ends}
use Rattle.offers.proofs.Sets.{number}
use Rattle.ends_masks.specs.Seating.{Seated, makes}
use Rattle.ends_masks.proofs.Numbers.{any-below-alike, any-each, count-each, any-gather}

-- ---- ends by number
module _ (d : Board) (c : ℕ) (p : Offer → Bool) where
  any-taken : any p (taken_ends d c) ≡ any (λ k. has c k && p (end d k)) (below (how_many d))
  unfolding taken taken_ends
  any-taken = any-each p (end d) (keep (has c) (below (how_many d))) ∙ any-keep (has c) (λ k. p (end d k)) (below (how_many d))

  count-taken : count p (taken_ends d c) ≡ count (λ k. has c k && p (end d k)) (below (how_many d))
  unfolding taken taken_ends
  count-taken = count-each p (end d) (keep (has c) (below (how_many d))) ∙ count-keep (has c) (λ k. p (end d k)) (below (how_many d))

-- ---- makers
-- what is taken together is among its makers
parts_make : (o : Offer) {x : Offer} → In x (parts o) → In x (makers o)
unfolding parts makers
parts_make (first e v) k = k
parts_make (over o e) k = rw (in_one k) (here refl)
parts_make (with o p) k = ⊎_elim (λ l. append_left (makers p) (parts_make o l)) (λ l. append_right (makers o) (parts_make p l)) (in-append (parts o) k)

none_in : (x : Offer) → In x [] → ⊥
none_in x m = in-none m

-- what a maker was made from is a maker too
pub origins_make : (o : Offer) {x y : Offer} → In y (makers o) → In x (origins y) → In x (makers o)
unfolding makers origins
origins_make (first e v) {x} k l = absurd (none_in x (rw (in_one k) at l))
origins_make (over o e) k l = ⊎_elim (λ q. later (parts_make o (rw q at l))) (λ q. later (origins_make o q l)) (in-cons k)
origins_make (with o p) k l = ⊎_elim (λ q. append_left (makers p) (origins_make o q l)) (λ q. append_right (makers o) (origins_make p q l)) (in-append (makers o) k)

some-part : (o : Offer) → (x : Offer) × In x (parts o)
unfolding parts
some-part (first e v) = (first e v, here refl)
some-part (over o e) = (over o e, here refl)
some-part (with o p) = let r = some-part o in (r.0, append_left (parts p) r.1)

-- an offer is a first one exactly if the word of what it was made from is 0
first_word : (ts : List Offer) (x : Offer) (w : ℕ) → is_offer x ≡ true → Means ts w (origins x) → is_first x ≡ eqb w 0
unfolding is_offer origins elem
first_word ts (first e v) w i m = sym (eq-eqb w 0 (no_digit w (length ts) m.small (λ k l. m.says k l)))
first_word ts (over o e) w i m =
    sym (ne_eqb w 0 (λ z.
    let r = some-part o in
    let j = number (m.inside r.0 r.1) in
    let h : has w j.0 ≡ true = m.says j.0 j.1 ∙ rw j.2 (in_elem r.1) in
    never (has 0 j.0) (rw z at h) (has-zero j.0)))
first_word ts (with o p) w i m = never false i refl

-- ---- a seated board
module _ (t : List ℕ) (d : Board) (o : Offers) (beside : Beside) (ts : List Offer) (es : Ends) (c : ℕ) (s : Seated t d (rows_of o beside) ts es) where
  -- a test of taken ends, as a test of their numbers
  pub any-ends : (p : Offer → Bool) (q : ℕ → Bool) → ((k : ℕ) → k < es.count → p (nth ts (at es.row k)) ≡ q k) → any p (taken_ends d c) ≡ any (λ k. has c k && q k) (below es.count)
  any-ends p q h =
      any-taken d c p ∙ rw (sym s.number)
      (any-below-alike (λ k. has c k && p (end d k)) (λ k. has c k && q k) es.count
      (λ k l. ap (λ (b : Bool). has c k && b) (ap p (sym (s.ends-are k l)) ∙ h k l)))

  pub count-ends : (p : Offer → Bool) (q : ℕ → Bool) → ((k : ℕ) → k < es.count → p (nth ts (at es.row k)) ≡ q k) → count p (taken_ends d c) ≡ count (λ k. has c k && q k) (below es.count)
  count-ends p q h =
      count-taken d c p ∙ rw (sym s.number)
      (count-below-same (λ k. has c k && p (end d k)) (λ k. has c k && q k) es.count
      (λ k l. ap (λ (b : Bool). has c k && b) (ap p (sym (s.ends-are k l)) ∙ h k l)))

  -- row y is a maker of a taken end
  pub makes-row : (y : ℕ) → y < length ts → elem (nth ts y) (taken_makers d c) ≡ makes es.makers es.count c y
  unfolding taken_makers elem makes
  makes-row y l =
      any-gather (same (nth ts y)) makers (taken_ends d c)
      ∙ any-ends (λ x. elem (nth ts y) (makers x)) (λ k. has (at es.makers k) y)
      (λ k h. sym (ap (λ (w : ℕ). has w y) (s.makers-are k h) ∙ (s.holds_ts.rows (at es.row k) (s.inside k h)).makers-are.says y l))

  -- every maker of a taken end is a row
  pub maker_row : {x : Offer} → In x (taken_makers d c) → (y : ℕ) × (y < length ts) × (nth ts y ≡ x)
  unfolding taken_makers taken_ends taken
  maker_row {x} m =
      let e = in_gather makers (taken_ends d c) m in
      let k = in_each (end d) (keep (has c) (below (how_many d))) e.1 in
      let l : k.0 < es.count = rw s.number (in_below (how_many d) (in_keep (has c) (below (how_many d)) k.1).0) in
      let q : In x (makers (nth ts (at es.row k.0))) = rw (s.ends-are k.0 l, sym k.2) e.2 in
      number ((s.holds_ts.rows (at es.row k.0) (s.inside k.0 l)).makers-are.inside x q)

  -- a test of the makers of taken ends, as a test of rows
  pub any-makers : (p : Offer → Bool) → any p (taken_makers d c) ≡ any (λ y. makes es.makers es.count c y && p (nth ts y)) (below o.count)
  any-makers p =
      let e = s.holds_ts.count-is in
      iff _ _
      (λ h.
      let r = any_in p (taken_makers d c) h in
      let y = maker_row r.1 in
      in_any (λ y. makes es.makers es.count c y && p (nth ts y)) (below_in o.count (omega (arith, e, y.1)))
      (and_both _ _ (sym (makes-row y.0 y.1) ∙ rw y.2 (in_elem r.1)) (rw y.2 r.2)))
      (λ h.
      let r = any_in (λ y. makes es.makers es.count c y && p (nth ts y)) (below o.count) h in
      let l : r.0 < length ts = omega (arith, e, in_below o.count r.1) in
      let q = and-true (makes es.makers es.count c r.0) _ r.2 in
      in_any p (elem_in (taken_makers d c) (makes-row r.0 l ∙ q.0)) q.1)

  -- a row is a first offer exactly if its word of parents is 0
  pub first-row : (y : ℕ) → y < length ts → is_first (nth ts y) ≡ eqb (at o.parents y) 0
  first-row y l = let r = s.holds_ts.rows y l in first_word ts (nth ts y) (at o.parents y) r.offer r.parents-are

  -- the edges whose first offer is spent, by rows
  pub spent-rows : (e : ℕ) → spent d c e ≡ any (λ y. makes es.makers es.count c y && eqb (at o.parents y) 0 && eqb (at o.last y) e) (below o.count)
  unfolding spent
  spent-rows e =
      any-makers (λ x. is_first x && eqb (last_edge x) e)
      ∙ any-below-alike (λ y. makes es.makers es.count c y && (is_first (nth ts y) && eqb (last_edge (nth ts y)) e))
      (λ y. makes es.makers es.count c y && eqb (at o.parents y) 0 && eqb (at o.last y) e) o.count
      (λ y h.
      let l : y < length ts = omega (arith, s.holds_ts.count-is) in
      rw (first-row y l, sym (s.holds_ts.rows y l).last-is) (sym (and_assoc (makes es.makers es.count c y) (eqb (at o.parents y) 0) (eqb (at o.last y) e))))
