-- A search over all sets of ends that recurses on the number of ends still open, first choice first: it finds the first set that passes, or there
-- is none. Assumes nothing.
use mathlib.Core.Path.{◌≡◌, refl, sym, ap, ◌∙◌}
use Prim.Native.Nat.{ℕ, zero, suc, ◌+◌, ◌%◌, ◌^◌, ◌<◌}
use native.Mathlib.Nat.{mod-eq_of_lt, zero-lt-suc, add-zero, pow-suc, zero-add, mod-one}
use native.Mathlib.Omega.{arith}
use mathlib.Core.Bool.{Bool, true, false, cond}
use mathlib.Core.Option.{Option, none, some}
use mathlib.Core.Logic.{◌⊎◌, inl, inr, ⊎_elim}
use Rattle.paper.specs.Lists.{has}
use Rattle.paper.specs.Choices.{Before, FirstOf}
use Rattle.paper.proofs.Bools.{never, true_or_false}
use Rattle.paper.proofs.Digits.{has_mod, digit_in, digit_out, in_digit, out_digit}

-- ---- the search: r ends are open, from number k; acc holds the choice for those below k
unfoldable pub look : (ℕ → Bool) → ℕ → ℕ → ℕ → Option ℕ
look w zero k acc = cond (w acc) (some acc) none
look w (suc r) k acc = elim (look w r (suc k) (acc + 2 ^ k)) [ none ↦ look w r (suc k) acc | some c ↦ some c ]

-- what a search over r open ends from k finds, among the sets whose digits below k are acc
pub record Found (w : ℕ → Bool) (r k acc c : ℕ) : Type 0 where
  pub is_set : c < 2 ^ (k + r)
  pub starts : c % 2 ^ k ≡ acc
  pub passes : w c ≡ true
  pub before_others : (x : ℕ) → x < 2 ^ (k + r) → x % 2 ^ k ≡ acc → w x ≡ true → (x ≡ c) ⊎ Before c x

abbrev pub Finds : (ℕ → Bool) → ℕ → ℕ → ℕ → Option ℕ → Type 0
Finds w r k acc none = (x : ℕ) → x < 2 ^ (k + r) → x % 2 ^ k ≡ acc → w x ≡ false
Finds w r k acc (some c) = Found w r k acc c

at-end : (w : ℕ → Bool) (k acc : ℕ) → acc < 2 ^ k → (b : Bool) → w acc ≡ b → Finds w zero k acc (cond b (some acc) none)
at-end w k acc la true e = record {
  is_set = rw (add-zero k) la;
  starts = mod-eq_of_lt la;
  passes = e;
  before_others = λ x l s p. inl (sym (mod-eq_of_lt (rw (add-zero k) at l)) ∙ s);
}
at-end w k acc la false e = λ x l s. rw (sym (mod-eq_of_lt (rw (add-zero k) at l)) ∙ s) e

-- a set whose digit k is 1 comes before one that is alike below k and whose digit k is 0
before_at : (c x k acc : ℕ) → acc < 2 ^ k → c % 2 ^ suc k ≡ acc + 2 ^ k → x % 2 ^ suc k ≡ acc → Before c x
before_at c x k acc la hc hx =
    let pc = in_digit c k acc la hc in
    let px = out_digit x k acc la hx in
    record {
      lowest-end = k;
      held = pc.0;
      not-held = px.0;
      alike = λ j l. sym (has_mod c k j l) ∙ ap (λ (y : ℕ). has y j) (pc.1 ∙ sym px.1) ∙ has_mod x k j l;
    }

-- a set is in the first half or in the second
module _ (w : ℕ → Bool) (r k acc : ℕ) (la : acc < 2 ^ k) where
  width : suc k + r ≡ k + suc r
  width = omega arith

  taking : {c : ℕ} → Found w r (suc k) (acc + 2 ^ k) c → Found w (suc r) k acc c
  taking {c} f = record {
    is_set = rw (← width) f.is_set;
    starts = (in_digit c k acc la f.starts).1;
    passes = f.passes;
    before_others = λ x l s p.
        ⊎_elim (λ h. f.before_others x (rw width l) (digit_in x k acc s h) p)
        (λ h. inr (before_at c x k acc la f.starts (digit_out x k acc s h))) (true_or_false (has x k));
  }

  leaving : {c : ℕ} → Finds w r (suc k) (acc + 2 ^ k) none → Found w r (suc k) acc c → Found w (suc r) k acc c
  leaving {c} n f = record {
    is_set = rw (← width) f.is_set;
    starts = (out_digit c k acc la f.starts).1;
    passes = f.passes;
    before_others = λ x l s p.
        ⊎_elim (λ h. never _ p (n x (rw width l) (digit_in x k acc s h)))
        (λ h. f.before_others x (rw width l) (digit_out x k acc s h) p) (true_or_false (has x k));
  }

  neither : Finds w r (suc k) (acc + 2 ^ k) none → Finds w r (suc k) acc none → Finds w (suc r) k acc none
  neither n o = λ x l s.
      ⊎_elim (λ h. n x (rw width l) (digit_in x k acc s h)) (λ h. o x (rw width l) (digit_out x k acc s h)) (true_or_false (has x k))

  both : (a b : Option ℕ) → Finds w r (suc k) (acc + 2 ^ k) a → Finds w r (suc k) acc b → Finds w (suc r) k acc (elim a [ none ↦ b | some c ↦ some c ])
  both none none n o = neither n o
  both none (some c) n f = leaving n f
  both (some c) b f o = taking f

acc_in : (k acc : ℕ) → acc < 2 ^ k → acc + 2 ^ k < 2 ^ suc k
acc_in k acc h = rw (pow-suc 2 k) (omega arith)

acc_out : (k acc : ℕ) → acc < 2 ^ k → acc < 2 ^ suc k
acc_out k acc h = rw (pow-suc 2 k) (omega arith)

pub look_finds : (w : ℕ → Bool) (r k acc : ℕ) → acc < 2 ^ k → Finds w r k acc (look w r k acc)
unfolding look
look_finds w zero k acc la = at-end w k acc la (w acc) refl
look_finds w (suc r) k acc la =
    both w r k acc la (look w r (suc k) (acc + 2 ^ k)) (look w r (suc k) acc) (look_finds w r (suc k) (acc + 2 ^ k) (acc_in k acc la)) (look_finds w r (suc k) acc (acc_out k acc la))

-- the whole search, over m ends
pub look_first : (w : ℕ → Bool) (m : ℕ) → Finds w m 0 0 (look w m 0 0)
look_first w m = look_finds w m 0 0 (zero-lt-suc 0)

pub found_first : (w : ℕ → Bool) (m c : ℕ) → Found w m 0 0 c → FirstOf w m c
found_first w m c f = record {
  is_set = rw (← zero-add m) f.is_set;
  passes = f.passes;
  before_others = λ x l p. f.before_others x (rw (zero-add m) l) (mod-one x) p;
}
