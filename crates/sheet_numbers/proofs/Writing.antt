-- Laws of what a writer leaves: one text behind another is one text, and a loop that writes piece by piece writes the whole. Assumes nothing.
use mathlib.Core.Path.{◌≡◌, refl, sym, ap, subst, ◌∙◌}
use mathlib.Core.List.{List, [], ◌∷◌, ◌++◌, append-nil, append_assoc}
use Prim.Native.Nat.{ℕ, ◌+◌, ◌≤◌}
use native.Mathlib.Omega.{arith}
use lib.ListN.{length, take, set, length-append}
use lib.Seq.{sets, length-sets, take-length}
use Rattle.wire.proofs.Laws.{sets_then, sets-front}
use Rattle.sheet_numbers.specs.Written.{Written, Printed}

-- ---- single texts
pub wrote_none : (d : List ℕ) (to : ℕ) → Written d to [] d to
wrote_none d to = record { place = omega arith; bytes = refl }

pub wrote_one : (d : List ℕ) (to x : ℕ) → Written d to (x ∷ []) (set d to x) (to + 1)
wrote_one d to x = record { place = omega arith; bytes = refl }

-- a copy of a whole slice
pub wrote_all : (d w new : List ℕ) (to : ℕ) → new ≡ sets d to (take (length w) w) → Written d to w new (to + length w)
wrote_all d w new to e = record { place = refl; bytes = rw (take-length w) at e }

module _ {d e : List ℕ} {to p : ℕ} {x : List ℕ} (w : Written d to x e p) where
  pub wrote_long : length e ≡ length d
  wrote_long = ap length w.bytes ∙ length-sets d to x

  pub wrote_then : {f : List ℕ} {q : ℕ} {y : List ℕ} → Written e p y f q → Written d to (x ++ y) f q
  wrote_then {f} {q} {y} v = record {
    place = omega (arith, w.place, v.place, length-append x y);
    bytes = v.bytes ∙ rw w.bytes (sets_then x y d to p w.place);
  }

  pub wrote_as : {y : List ℕ} → x ≡ y → Written d to y e p
  wrote_as {y} h = subst (λ (l : List ℕ). Written d to l e p) h w

  -- one byte more behind it
  pub wrote_more : (b : ℕ) → Written d to (x ++ (b ∷ [])) (set e p b) (p + 1)
  wrote_more b = wrote_then (wrote_one e p b)

-- a byte, and a text behind it
pub wrote_behind : {d f : List ℕ} {to q : ℕ} {y : List ℕ} (b : ℕ) → Written (set d to b) (to + 1) y f q → Written d to (b ∷ y) f q
wrote_behind {d} {to = to} b v = wrote_then (wrote_one d to b) v

-- at the front
pub printed : {d e : List ℕ} {p : ℕ} {x : List ℕ} → Written d 0 x e p → p ≤ length d → Printed x d e p
printed {d} {e} {p} {x} w l = let q : p ≡ length x = omega (arith, w.place) in record { long = q; front = rw q (w.bytes ∙ sets-front x d (omega arith)) }

-- ---- a text that is written piece by piece: what is written, and the pieces that are left
pub record Writing (d : List ℕ) (to : ℕ) (whole left new : List ℕ) (next : ℕ) : Type 0 where
  pub before_it : List ℕ
  pub written : Written d to before_it new next
  pub in_all : before_it ++ left ≡ whole

pub writing_none : {whole left : List ℕ} (d : List ℕ) (to : ℕ) → left ≡ whole → Writing d to whole left d to
writing_none d to h = record { before_it = []; written = wrote_none d to; in_all = h }

module _ {d e : List ℕ} {to p : ℕ} {whole left : List ℕ} (w : Writing d to whole left e p) where
  pub writing_long : length e ≡ length d
  writing_long = wrote_long w.written

  pub writing_on : {f : List ℕ} {q : ℕ} {x rest : List ℕ} → left ≡ x ++ rest → Written e p x f q → Writing d to whole rest f q
  writing_on {x = x} {rest = rest} h v = record {
    before_it = w.before_it ++ x;
    written = wrote_then w.written v;
    in_all = append_assoc w.before_it x rest ∙ ap (λ (l : List ℕ). w.before_it ++ l) (sym h) ∙ w.in_all;
  }

  pub writing_done : left ≡ [] → Written d to whole e p
  writing_done h = wrote_as w.written (sym (append-nil w.before_it) ∙ ap (λ (l : List ℕ). w.before_it ++ l) (sym h) ∙ w.in_all)
