-- Numbers as bytes: what is written in front of any rest is read back, and what is read from bytes is what was written. Assumes nothing.
use mathlib.Core.Path.{◌≡◌, refl, sym, ap, subst₂, ◌∙◌}
use Prim.Native.Nat.{ℕ, zero, suc, ◌+◌, ◌*◌, ◌/◌, ◌%◌, ◌^◌, ◌≤◌, ◌<◌}
use native.Mathlib.Nat.{div-div-eq-div-mul, div-add-mod', mod-eq_of_lt}
use native.Mathlib.Omega.{arith}
use mathlib.Core.Bool.{Bool, true, false, cond}
use mathlib.Core.List.{List, [], ◌∷◌, ◌++◌, append_assoc}
use mathlib.Core.Option.{Option, none, some}
use lib.Dec.{leb, eqb}
use lib.ListN.{length}
use borrow.Author.Tests.{leb-true, le-leb, eqb-true, eq-eqb}
use Rattle.paper.specs.Lists.{gather, one_if}
use Rattle.paper.specs.Bytes.{two, four, sized, listed, framed, Reader, go_on, ◌>>=◌, done, fail, byte, up_to, word, times, values_read, whole}
use Rattle.paper.proofs.Lengths.{length-zero, length-gather}
use Rattle.paper.proofs.Bounds.{Under, under_nil, under_cons, under_tail, under_right, under_append, under-gather}

abbrev pub Bytes : List ℕ → Type 0
Bytes b = Under 256 b

-- values of four bytes
abbrev pub Words : List ℕ → Type 0
Words vs = Under (2 ^ 32) vs

-- ---- numbers of two bytes and of four
pub two_back : (n : ℕ) → n < 65536 → n / 256 % 256 * 256 + n % 256 ≡ n
two_back n h = omega arith

pub two-of : (a b : ℕ) → a < 256 → b < 256 → two (a * 256 + b) ≡ a ∷ b ∷ []
two-of a b p q =
    let e : (a * 256 + b) / 256 % 256 ≡ a = omega arith in
    let f : (a * 256 + b) % 256 ≡ b = omega arith in
    rw (e, f)

pub four_back : (v : ℕ) → v < 2 ^ 32 → ((v / 16777216 % 256 * 256 + v / 65536 % 256) * 256 + v / 256 % 256) * 256 + v % 256 ≡ v
four_back v h =
    let t : v / 16777216 % 256 ≡ v / 16777216 = mod-eq_of_lt (omega arith) in
    let d2 : v / 16777216 * 256 + v / 65536 % 256 ≡ v / 65536 = rw (← div-div-eq-div-mul v 65536 256) (div-add-mod' (v / 65536) 256) in
    let d1 : v / 65536 * 256 + v / 256 % 256 ≡ v / 256 = rw (← div-div-eq-div-mul v 256 256) (div-add-mod' (v / 256) 256) in
    rw (t, d2, d1) (div-add-mod' v 256)

pub four-of : (a b c d : ℕ) → a < 256 → b < 256 → c < 256 → d < 256 → four (((a * 256 + b) * 256 + c) * 256 + d) ≡ a ∷ b ∷ c ∷ d ∷ []
four-of a b c d p q r s =
    let v : ℕ = ((a * 256 + b) * 256 + c) * 256 + d in
    let e : v / 16777216 % 256 ≡ a = omega arith in
    let f : v / 65536 % 256 ≡ b = omega arith in
    let g : v / 256 % 256 ≡ c = omega arith in
    let h : v % 256 ≡ d = omega arith in
    rw (e, f, g, h)

-- ---- readers taken apart: what a reader that reads has read
pub never_some : {A B : Type 0} {x : A} → ◌≡◌ {A = Option A} none (some x) → B
never_some h = let z : ◌≡◌ {A = ℕ} 0 1 = cc in absurd (omega arith)

-- two readings of the same bytes read the same and leave the same
pub same_read : {A : Type 0} {x y : A} {a b : List ℕ} → ◌≡◌ {A = Option (A × List ℕ)} (some (x, a)) (some (y, b)) → (x ≡ y) × (a ≡ b)
same_read {A} {x} {y} {a} {b} h =
    let e : ◌≡◌ {A = A × List ℕ} (x, a) (y, b) = cc in
    (ap (λ (p : A × List ℕ). p.0) e, ap (λ (p : A × List ℕ). p.1) e)

pub went_on : {A B : Type 0} (r : Option (A × List ℕ)) (f : A → Reader B) (z : B × List ℕ)
    → go_on r f ≡ some z → (x : A × List ℕ) × (r ≡ some x) × (f x.0 x.1 ≡ some z)
went_on none f z h = never_some h
went_on (some x) f z h = (x, refl, h)

pub on-and-on : {A B C : Type 0} (r : Option (A × List ℕ)) (f : A → Reader B) (g : B → Reader C)
    → go_on (go_on r f) g ≡ go_on r (λ x b. go_on (f x b) g)
on-and-on none f g = refl
on-and-on (some x) f g = refl

pub passed : {A : Type 0} (c : Bool) (o : Option A) (a : A) → cond c o none ≡ some a → (c ≡ true) × (o ≡ some a)
passed true o a h = (refl, h)
passed false o a h = never_some h

pub read-passed : {A : Type 0} (c : Bool) (r : Reader A) (b : List ℕ) (z : A × List ℕ) → cond c r fail b ≡ some z → (c ≡ true) × (r b ≡ some z)
read-passed true r b z h = (refl, h)
read-passed false r b z h = never_some h

pub whole_is : {A : Type 0} (o : Option (A × List ℕ)) (a : A) → whole o ≡ some a → o ≡ some (a, [])
whole_is none a h = never_some h
whole_is {A} (some x) a h =
    let p = passed (eqb (length x.1) 0) (some x.0) a h in
    let e : x.0 ≡ a = cc in
    let f : x.1 ≡ [] = length-zero x.1 (eqb-true _ 0 p.0) in
    λ i. some (e i, f i)

-- b is w and then rest, and rest is bytes
pub record Front (b w rest : List ℕ) : Type 0 where
  pub parts : b ≡ w ++ rest
  pub left : Bytes rest

pub front-on : {b v c w rest : List ℕ} → Front b v c → Front c w rest → Front b (v ++ w) rest
front-on {b} {v} {c} {w} {rest} f g = record { parts = f.parts ∙ ap (λ (l : List ℕ). v ++ l) g.parts ∙ sym (append_assoc v w rest); left = g.left }

pub byte-is : (b : List ℕ) (x : ℕ) (rest : List ℕ) → Bytes b → byte b ≡ some (x, rest) → Front b (x ∷ []) rest × (x < 256)
byte-is [] x rest u h = never_some h
byte-is (y ∷ b) x rest u h =
    let e = same_read h in
    rw (← e.0, ← e.1) (record { parts = refl; left = under_tail 256 y b u }, u 0)

-- whatever the bytes, no more than n is read
pub up_to_bound : (n : ℕ) (b : List ℕ) (x : ℕ) (rest : List ℕ) → up_to n b ≡ some (x, rest) → (byte b ≡ some (x, rest)) × (x ≤ n)
up_to_bound n b x rest h =
    let g = went_on (byte b) (λ y. cond (leb y n) (done y) fail) (x, rest) h in
    let p = read-passed (leb g.0.0 n) (done g.0.0) g.0.1 (x, rest) g.2 in
    let e = same_read p.1 in
    (g.1 ∙ p.1, rw (← e.0) (leb-true _ _ p.0))

pub up_to-is : (n : ℕ) (b : List ℕ) (x : ℕ) (rest : List ℕ) → Bytes b → up_to n b ≡ some (x, rest) → Front b (x ∷ []) rest × (x ≤ n)
up_to-is n b x rest u h = let r = up_to_bound n b x rest h in ((byte-is b x rest u r.0).0, r.1)

-- ---- a byte that says yes or no
pub flag_fits : (c : Bool) → leb (one_if c) 1 ≡ true
flag_fits true = refl
flag_fits false = refl

pub flag_byte : (c : Bool) → Bytes (one_if c ∷ [])
flag_byte c = under_cons 256 (one_if c) [] (omega (arith, leb-true (one_if c) 1 (flag_fits c))) (under_nil 256 (omega arith))

pub flag_back : (c : Bool) → eqb (one_if c) 1 ≡ c
flag_back true = refl
flag_back false = refl

pub flag_is : (n : ℕ) → n ≤ 1 → one_if (eqb n 1) ≡ n
flag_is zero h = refl
flag_is (suc zero) h = refl
flag_is (suc (suc n)) h = absurd (omega arith)

-- ---- values
pub word-four : (v : ℕ) (rest : List ℕ) → v < 2 ^ 32 → word (four v ++ rest) ≡ some (v, rest)
unfolding word
word-four v rest h = ap (λ (x : ℕ). some (x, rest)) (four_back v h)

pub word-is : (b : List ℕ) (v : ℕ) (rest : List ℕ) → Bytes b → word b ≡ some (v, rest) → Front b (four v) rest × (v < 2 ^ 32)
unfolding word
word-is [] v rest u h = never_some h
word-is (a ∷ []) v rest u h = never_some h
word-is (a ∷ (b ∷ [])) v rest u h = never_some h
word-is (a ∷ (b ∷ (c ∷ []))) v rest u h = never_some h
word-is (a ∷ (b ∷ (c ∷ (d ∷ r)))) v rest u h =
    let e = same_read h in
    let p : a ∷ b ∷ c ∷ d ∷ r ≡ four (((a * 256 + b) * 256 + c) * 256 + d) ++ r = ap (λ (l : List ℕ). l ++ r) (sym (four-of a b c d (u 0) (u 1) (u 2) (u 3))) in
    let l : Bytes r = under_right 256 (a ∷ b ∷ c ∷ d ∷ []) r u in
    rw (← e.0, ← e.1) (record { parts = p; left = l }, omega (arith, u 0, u 1, u 2, u 3))

pub times_back : (vs rest : List ℕ) → Words vs → times (length vs) word (gather four vs ++ rest) ≡ some (vs, rest)
times_back [] rest u = refl
times_back (v ∷ vs) rest u = rw (append_assoc (four v), word-four v (gather four vs ++ rest) (u 0), times_back vs rest (under_tail (2 ^ 32) v vs u))

-- whatever the bytes, n values are read
pub times-many : (n : ℕ) (b vs rest : List ℕ) → times n word b ≡ some (vs, rest) → length vs ≡ n
times-many zero b vs rest h = ap length (sym (same_read h).0)
times-many (suc n) b vs rest h =
    let f = went_on (word b) (λ x. times n word >>= (λ xs. done (x ∷ xs))) (vs, rest) h in
    let g = went_on (times n word f.0.1) (λ xs. done (f.0.0 ∷ xs)) (vs, rest) f.2 in
    ap length (sym (same_read g.2).0) ∙ ap suc (times-many n f.0.1 g.0.0 g.0.1 g.1)

pub times-is : (n : ℕ) (b vs rest : List ℕ) → Bytes b → times n word b ≡ some (vs, rest) → Front b (gather four vs) rest × Words vs
times-is zero b vs rest u h =
    let e = same_read h in
    rw (← e.0, ← e.1) (record { parts = refl; left = u }, under_nil (2 ^ 32) (omega arith))
times-is (suc n) b vs rest u h =
    let f = went_on (word b) (λ x. times n word >>= (λ xs. done (x ∷ xs))) (vs, rest) h in
    let v = f.0.0 in
    let c = f.0.1 in
    let g = went_on (times n word c) (λ xs. done (v ∷ xs)) (vs, rest) f.2 in
    let e = same_read g.2 in
    let w = word-is b v c u f.1 in
    let t = times-is n c g.0.0 g.0.1 w.0.left g.1 in
    subst₂ (λ (x y : List ℕ). Front b (gather four x) y × Words x) e.0 e.1
    (front-on w.0 t.0, under_cons (2 ^ 32) v g.0.0 w.1 t.1)

-- b is the values vs, at most so many of them, and then rest
pub record Values (most : ℕ) (b vs rest : List ℕ) : Type 0 where
  pub stand : Front b (listed vs) rest
  pub many : length vs ≤ most
  pub small : Words vs

pub values_back : (most : ℕ) (vs rest : List ℕ) → length vs ≤ most → Words vs → values_read most (listed vs ++ rest) ≡ some (vs, rest)
unfolding values_read
values_back most vs rest l u = rw (le-leb _ _ l, times_back vs rest u)

-- whatever the bytes, no more values are read than that
pub values_most : (most : ℕ) (b vs rest : List ℕ) → values_read most b ≡ some (vs, rest) → length vs ≤ most
unfolding values_read
values_most most b vs rest h =
    let f = went_on (up_to most b) (λ n. times n word) (vs, rest) h in
    omega (arith, (up_to_bound most b f.0.0 f.0.1 f.1).1, times-many f.0.0 f.0.1 vs rest f.2)

pub values-are : (most : ℕ) (b vs rest : List ℕ) → Bytes b → values_read most b ≡ some (vs, rest) → Values most b vs rest
unfolding values_read
values-are most b vs rest u h =
    let f = went_on (up_to most b) (λ n. times n word) (vs, rest) h in
    let n = f.0.0 in
    let c = f.0.1 in
    let o = up_to-is most b n c u f.1 in
    let t = times-is n c vs rest o.0.left f.2 in
    record { stand = rw (times-many n c vs rest f.2) (front-on o.0 t.0); many = values_most most b vs rest h; small = t.1 }

pub length-listed : (vs : List ℕ) → length (listed vs) ≡ 1 + 4 * length vs
length-listed vs = omega (arith, length-gather four 4 (λ v. refl) vs)

-- ---- the length in front
pub framed-sized : (b : List ℕ) → length b < 65536 → framed (sized b) ≡ true
framed-sized b h = let e = two_back (length b) h in eq-eqb _ (length (sized b)) (omega arith)

pub sized-framed : (x y : ℕ) (b : List ℕ) → x < 256 → y < 256 → framed (x ∷ y ∷ b) ≡ true → sized b ≡ x ∷ y ∷ b
sized-framed x y b p q h =
    let e : length b ≡ x * 256 + y = omega (arith, eqb-true (x * 256 + y + 2) (length (x ∷ y ∷ b)) h) in
    ap (λ (n : ℕ). two n ++ b) e ∙ ap (λ (l : List ℕ). l ++ b) (two-of x y p q)

-- ---- what is written is bytes
pub two_bytes : (n : ℕ) → Bytes (two n)
two_bytes n =
    under_cons 256 (n / 256 % 256) (n % 256 ∷ []) (omega arith)
    (under_cons 256 (n % 256) [] (omega arith) (under_nil 256 (omega arith)))

pub four_bytes : (v : ℕ) → Bytes (four v)
four_bytes v =
    under_cons 256 (v / 16777216 % 256) (v / 65536 % 256 ∷ two v) (omega arith)
    (under_cons 256 (v / 65536 % 256) (two v) (omega arith) (two_bytes v))

pub listed-bytes : (vs : List ℕ) → length vs < 256 → Bytes (listed vs)
listed-bytes vs h = under_cons 256 (length vs) (gather four vs) h (under-gather 256 four vs (omega arith) (λ v m. four_bytes v))

pub sized-bytes : (b : List ℕ) → Bytes b → Bytes (sized b)
sized-bytes b u = under_append 256 (two (length b)) b (two_bytes (length b)) u
