-- The order of choices: of two different sets exactly one comes first, a set comes before its part, and the first of those that pass is one. Assumes nothing.
use mathlib.Core.Path.{◌≡◌, refl, sym, ap, ◌∙◌}
use Prim.Native.Nat.{ℕ, zero, suc, ◌%◌, ◌^◌, ◌<◌}
use native.Mathlib.Nat.{mod-eq_of_lt, mod-one}
use native.Mathlib.Omega.{arith}
use mathlib.Core.Bool.{Bool, true, false}
use mathlib.Core.Logic.{◌⊎◌, inl, inr, ⊎_elim}
use Rattle.paper.specs.Lists.{has}
use Rattle.paper.specs.Choices.{Before, FirstOf}
use Rattle.paper.proofs.Bools.{never, true_or_false}
use Rattle.paper.proofs.Digits.{has_mod, digit_in, digit_out}

order : (a b : ℕ) → (a < b) ⊎ ((a ≡ b) ⊎ (b < a))
order zero zero = inr (inl refl)
order zero (suc b) = inl (omega arith)
order (suc a) zero = inr (inr (omega arith))
order (suc a) (suc b) = ⊎_elim (λ l. inl (omega arith)) (λ r. ⊎_elim (λ e. inr (inl (ap suc e))) (λ g. inr (inr (omega arith))) r) (order a b)

apart : {a b : Bool} {A : Type 0} → a ≡ b → a ≡ true → b ≡ false → A
apart {a} {b} e p q = never a p (e ∙ q)

pub before_asym : (c x : ℕ) → Before c x → Before x c → ⊥
before_asym c x p q =
    ⊎_elim (λ l. apart (sym (q.alike p.lowest-end l)) p.held p.not-held)
    (λ r. ⊎_elim (λ e. apart (ap (has c) e) p.held q.not-held) (λ l. apart (sym (p.alike q.lowest-end l)) q.held q.not-held) r)
    (order p.lowest-end q.lowest-end)

pub first_unique : {w : ℕ → Bool} {m : ℕ} (c d : ℕ) → FirstOf w m c → FirstOf w m d → c ≡ d
first_unique c d p q =
    ⊎_elim (λ e. sym e) (λ b. ⊎_elim (λ e. e) (λ b'. absurd (before_asym c d b b')) (q.before_others c p.is_set p.passes))
    (p.before_others d q.is_set q.passes)

-- alike in the digits below k, or one comes before the other
alike_or : (c x k : ℕ) → (c % 2 ^ k ≡ x % 2 ^ k) ⊎ (Before c x ⊎ Before x c)
alike_or c x zero = inl (mod-one c ∙ sym (mod-one x))
alike_or c x (suc k) =
    ⊎_elim (λ e. ⊎_elim (λ h. with_first e h) (λ h. without_first e h) (true_or_false (has c k))) (λ b. inr b) (alike_or c x k)
  where
    lower : (a b : ℕ) → a % 2 ^ k ≡ b % 2 ^ k → (j : ℕ) → j < k → has a j ≡ has b j
    lower a b e j l = sym (has_mod a k j l) ∙ ap (λ (y : ℕ). has y j) e ∙ has_mod b k j l

    with_first : c % 2 ^ k ≡ x % 2 ^ k → has c k ≡ true → (c % 2 ^ suc k ≡ x % 2 ^ suc k) ⊎ (Before c x ⊎ Before x c)
    with_first e h =
        ⊎_elim (λ g. inl (digit_in c k _ e h ∙ sym (digit_in x k _ refl g)))
        (λ g. inr (inl (record { lowest-end = k; held = h; not-held = g; alike = lower c x e }))) (true_or_false (has x k))

    without_first : c % 2 ^ k ≡ x % 2 ^ k → has c k ≡ false → (c % 2 ^ suc k ≡ x % 2 ^ suc k) ⊎ (Before c x ⊎ Before x c)
    without_first e h =
        ⊎_elim (λ g. inr (inr (record { lowest-end = k; held = g; not-held = h; alike = lower x c (sym e) })))
        (λ g. inl (digit_out c k _ e h ∙ sym (digit_out x k _ refl g))) (true_or_false (has x k))

-- of two different sets of m ends one comes first (and by `before_asym` not the other)
pub one-first : (m c x : ℕ) → c < 2 ^ m → x < 2 ^ m → (c ≡ x → ⊥) → Before c x ⊎ Before x c
one-first m c x lc lx d =
    ⊎_elim (λ e. absurd (d (sym (mod-eq_of_lt lc) ∙ e ∙ mod-eq_of_lt lx))) (λ b. b) (alike_or c x m)

-- "So a larger choice comes before its own part.": c has all that x has, and an end k besides
pub larger_first : (c x k : ℕ) → ((j : ℕ) → has x j ≡ true → has c j ≡ true) → has c k ≡ true → has x k ≡ false → Before c x
larger_first c x k h y n =
    ⊎_elim (λ e. absurd (apart (sym (has_mod c (suc k) k (omega arith)) ∙ ap (λ (z : ℕ). has z k) e ∙ has_mod x (suc k) k (omega arith)) y n))
    (λ r. ⊎_elim (λ b. b) (λ b. never (has c b.lowest-end) (h b.lowest-end b.held) b.not-held) r) (alike_or c x (suc k))
