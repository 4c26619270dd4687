-- Reading and writing a choice, number by number. Assumes nothing.
use mathlib.Core.Path.{◌≡◌, refl, sym, ap, ◌∙◌}
use Prim.Native.Nat.{ℕ, zero, suc, ◌+◌, ◌-◌, ◌%◌, ◌^◌, ◌≤◌, ◌<◌}
use native.Mathlib.Nat.{mod-one, mod-eq_of_lt}
use native.Mathlib.Omega.{arith}
use native.Mathlib.Numerals.{add-one}
use mathlib.Core.Bool.{Bool, true, false, ◌&&◌, cond}
use mathlib.Core.List.{List, [], ◌∷◌, ◌++◌, append-nil}
use lib.Dec.{leb, ltb}
use lib.ListN.{length, drop, set, length-append}
use lib.Seq.{drop-cons, drop-length, sets, length-sets}
use lib.Pow.{pow_mono, pow_pos}
use borrow.Author.Tests.{lt-leb, le-leb, leb-true, lt-ltb, le-ltb}
use Rattle.paper.specs.Lists.{at, from, has, below, all, keep}
use Rattle.paper.specs.Answers.{refused, good, ◌>>=◌, need}
use Rattle.paper.proofs.Ladders.{no_good, same_good}
use Rattle.paper.specs.Choices.{Board, how_many, taken}
use Rattle.paper.specs.Operations.{rising, choice_of}
use Rattle.paper.proofs.Bools.{and_never, and-true, and_both}
use Rattle.paper.proofs.Digits.{digit_in, digit_out}
use Rattle.paper.proofs.Lists.{below_more, below_split, keep_append}
use Rattle.wire.proofs.Laws.{sets_then, sets-front}
use Rattle.choice.specs.Choice.{is_choice, choice_read, numbers}

-- ---- reading
-- the numbers rise from `low` on, and are below n
abbrev pub upward : ℕ → ℕ → List ℕ → Bool
upward n low [] = true
upward n low (k ∷ ks) = leb low k && (ltb k n && upward n (suc k) ks)

shuffled : (a r b c : Bool) → (a && r) && (b && c) ≡ b && (a && (r && c))
shuffled true r true c = refl
shuffled true true false c = refl
shuffled true false false c = refl
shuffled false r true c = refl
shuffled false r false c = refl

rising_upward : (n k : ℕ) (ks : List ℕ) → rising (k ∷ ks) && all (λ k. ltb k n) (k ∷ ks) ≡ ltb k n && upward n (suc k) ks
rising_upward n k [] = refl
rising_upward n k (y ∷ ys) =
    shuffled (ltb k y) (rising (y ∷ ys)) (ltb k n) (all (λ k. ltb k n) (y ∷ ys))
    ∙ ap (λ b. ltb k n && (ltb k y && b)) (rising_upward n y ys)

choice_upward : (n : ℕ) (ks : List ℕ) → is_choice ks n ≡ upward n 0 ks
unfolding is_choice
choice_upward n [] = refl
choice_upward n (k ∷ ks) = rising_upward n k ks ∙ sym (rw (le-leb 0 k (omega arith)))

-- the first i bytes are read as the set c, and the next number is at least `low`
pub record Reading (ks : List ℕ) (n c low i : ℕ) : Type 0 where
  pub inside : i ≤ length ks
  pub test : is_choice ks n ≡ upward n low (drop i ks)
  pub sum : c + choice_of (drop i ks) ≡ choice_of ks
  pub small : c < 2 ^ low
  pub lows : low ≤ n

pub reading_none : (ks : List ℕ) (n : ℕ) → Reading ks n 0 0 0
reading_none ks n = record { inside = omega arith; test = choice_upward n ks; sum = omega arith; small = pow_pos 0; lows = omega arith }

module _ {ks : List ℕ} {n c low i : ℕ} (r : Reading ks n c low i) (l : i < length ks) where
  ahead : drop i ks ≡ at ks i ∷ drop (suc i) ks
  ahead = drop-cons ks i 0 l

  pub reading_next : low ≤ at ks i → at ks i < n → Reading ks n (c + 2 ^ at ks i) (at ks i + 1) (i + 1)
  reading_next lo hi =
      let k = at ks i in
      let s : c + (2 ^ k + choice_of (drop (suc i) ks)) ≡ choice_of ks = rw ahead at r.sum in
      record {
        inside = omega arith;
        test = rw (add-one i, add-one k) (r.test ∙ rw (ahead, le-leb low k lo, lt-ltb k n hi));
        sum = rw (add-one i) (omega arith);
        small = rw (add-one k) (omega (arith, r.small, pow_mono {i = low} {j = k} lo));
        lows = omega arith;
      }

  -- a number that isn't higher than the one before, or no end's
  pub reading_low : at ks i < low → is_choice ks n ≡ false
  reading_low h = r.test ∙ rw (ahead, lt-leb low (at ks i) h)

  pub reading_high : n ≤ at ks i → is_choice ks n ≡ false
  reading_high h = r.test ∙ rw (ahead, le-ltb (at ks i) n h) (and_never (leb low (at ks i)))

pub read-refused : (ks : List ℕ) (n : ℕ) → is_choice ks n ≡ false → refused 9 0 ≡ choice_read ks n
unfolding choice_read
read-refused ks n e = rw e

pub read-good : {ks : List ℕ} {n c low i : ℕ} → Reading ks n c low i → length ks ≤ i → good c ≡ choice_read ks n
unfolding choice_read
read-good {ks} {n} {c} {low} {i} r l =
    let q : i ≡ length ks = omega (arith, r.inside) in
    let d : drop i ks ≡ [] = rw q (drop-length ks) in
    let t : is_choice ks n ≡ true = r.test ∙ rw d in
    let s : c + choice_of [] ≡ choice_of ks = rw d at r.sum in
    rw t (ap good (omega arith))

-- ---- what was read
module _ (ks : List ℕ) (n : ℕ) where
  -- row 9 at place 0, or the set
  pub refused-is : (a p : ℕ) → refused a p ≡ choice_read ks n → (is_choice ks n ≡ false) × (a ≡ 9) × (p ≡ 0)
  unfolding choice_read
  refused-is a p = by (is_choice ks n)
    where
      by : (b : Bool) → refused a p ≡ need 9 b >>= (λ u. good (choice_of ks)) → (b ≡ false) × (a ≡ 9) × (p ≡ 0)
      by true e = no_good e
      by false e = (refl, cc e, cc e)

  pub good-is : (c : ℕ) → good c ≡ choice_read ks n → (is_choice ks n ≡ true) × (c ≡ choice_of ks)
  unfolding choice_read
  good-is c = by (is_choice ks n)
    where
      by : (b : Bool) → good c ≡ need 9 b >>= (λ u. good (choice_of ks)) → (b ≡ true) × (c ≡ choice_of ks)
      by true e = (refl, same_good e)
      by false e = no_good (sym e)

  pub choice_is : is_choice ks n ≡ rising ks && all (λ k. ltb k n) ks
  unfolding is_choice
  choice_is = refl

-- ---- writing
module _ (c k : ℕ) where
  numbers_more : numbers c (k + 1) ≡ numbers c k ++ cond (has c k) (k ∷ []) []
  unfolding numbers
  numbers_more = rw (below_more k) (keep_append (has c) (below k) (k ∷ []))

  pub numbers_in : has c k ≡ true → numbers c (k + 1) ≡ numbers c k ++ (k ∷ [])
  numbers_in e = numbers_more ∙ rw e

  pub numbers-out : has c k ≡ false → numbers c (k + 1) ≡ numbers c k
  numbers-out e = numbers_more ∙ rw e (append-nil (numbers c k))

pub numbers-none : (c : ℕ) → numbers c 0 ≡ []
unfolding numbers
numbers-none c = refl

-- a taken end's number has room if all have
pub numbers-room : (c n k : ℕ) → k < n → has c k ≡ true → length (numbers c k) < length (numbers c n)
unfolding numbers
numbers-room c n k l e =
    let rest = from (suc k) (n - suc k) in
    let q : keep (has c) (below n) ≡ keep (has c) (below k) ++ (k ∷ keep (has c) rest) =
    rw (below_split k n l) (keep_append (has c) (below k) (k ∷ rest) ∙ rw e) in
    omega (arith, ap length q, length-append (keep (has c) (below k)) (k ∷ keep (has c) rest))

-- the numbers of the ends below k stand at the front, and the next place is `to`
pub record Writing (c k : ℕ) (old new : List ℕ) (to : ℕ) : Type 0 where
  pub next : to ≡ length (numbers c k)
  pub bytes : new ≡ sets old 0 (numbers c k)

pub writing_none : (c : ℕ) (old : List ℕ) → Writing c 0 old old 0
writing_none c old = record { next = rw (numbers-none c); bytes = rw (numbers-none c) }

module _ {c k : ℕ} {old new : List ℕ} {to : ℕ} (w : Writing c k old new to) where
  pub writing_long : length new ≡ length old
  writing_long = ap length w.bytes ∙ length-sets old 0 (numbers c k)

  -- a taken end's number has room
  pub has_room : (n : ℕ) → k < n → has c k ≡ true → length (numbers c n) ≤ length old → to < length new
  has_room n l e m = omega (arith, w.next, writing_long, numbers-room c n k l e)

  pub writing_in : has c k ≡ true → Writing c (k + 1) old (set new to k) (to + 1)
  writing_in e = record {
    next = rw (numbers_in c k e) (omega (arith, w.next, length-append (numbers c k) (k ∷ [])));
    bytes = rw (numbers_in c k e, w.bytes) (sets_then (numbers c k) (k ∷ []) old 0 to (omega (arith, w.next)));
  }

  pub writing_out : has c k ≡ false → Writing c (k + 1) old new to
  writing_out e = record { next = rw (numbers-out c k e) w.next; bytes = rw (numbers-out c k e) w.bytes }

  pub writing_done : length (numbers c k) ≤ length old → new ≡ numbers c k ++ drop (length (numbers c k)) old
  writing_done l = w.bytes ∙ sets-front (numbers c k) old l

-- the numbers of the taken ends are what the paper calls taken
pub taken-numbers : (d : Board) (c n : ℕ) → n ≡ how_many d → numbers c n ≡ taken d c
unfolding numbers taken
taken-numbers d c n e = rw e

-- ---- what is written reads back
choice_snoc : (ks : List ℕ) (k : ℕ) → choice_of (ks ++ (k ∷ [])) ≡ choice_of ks + 2 ^ k
choice_snoc [] k = omega arith
choice_snoc (x ∷ ks) k = omega (arith, choice_snoc ks k)

numbers-low : (c k : ℕ) → choice_of (numbers c k) ≡ c % 2 ^ k
numbers-low c zero = rw (numbers-none c) (sym (mod-one c))
numbers-low c (suc k) = by (has c k) refl (numbers-low c k)
  where
    by : (b : Bool) → has c k ≡ b → choice_of (numbers c k) ≡ c % 2 ^ k → choice_of (numbers c (suc k)) ≡ c % 2 ^ suc k
    by true h e = rw (← add-one k, numbers_in c k h) (choice_snoc (numbers c k) k ∙ rw (add-one k) (sym (digit_in c k (choice_of (numbers c k)) (sym e) h)))
    by false h e = rw (← add-one k, numbers-out c k h) (rw (add-one k) (sym (digit_out c k (choice_of (numbers c k)) (sym e) h)))

lower_upward : (n low : ℕ) (ks : List ℕ) → upward n (suc low) ks ≡ true → upward n low ks ≡ true
lower_upward n low [] e = refl
lower_upward n low (k ∷ ks) e =
    let q = and-true (leb (suc low) k) _ e in
    and_both (leb low k) _ (le-leb low k (omega (arith, leb-true (suc low) k q.0))) q.1

kept_upward : (p : ℕ → Bool) (n i m : ℕ) → i + m ≤ n → upward n i (keep p (from i m)) ≡ true
kept_upward p n i zero l = refl
kept_upward p n i (suc m) l = by (p i) (kept_upward p n (suc i) m (omega arith))
  where
    by : (b : Bool) → upward n (suc i) (keep p (from (suc i) m)) ≡ true → upward n i (cond b (i ∷ keep p (from (suc i) m)) (keep p (from (suc i) m))) ≡ true
    by true e = rw (le-leb i i (omega arith), lt-ltb i n (omega arith)) e
    by false e = lower_upward n i (keep p (from (suc i) m)) e

numbers_choice : (c n : ℕ) → is_choice (numbers c n) n ≡ true
unfolding numbers
numbers_choice c n = choice_upward n (keep (has c) (below n)) ∙ kept_upward (has c) n 0 n (omega arith)

-- the bytes written for a set of n ends are read as that set
pub written_reads : (c n : ℕ) → c < 2 ^ n → choice_read (numbers c n) n ≡ good c
unfolding choice_read
written_reads c n l = rw (numbers_choice c n) (ap good (numbers-low c n ∙ mod-eq_of_lt l))
