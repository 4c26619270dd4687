-- Rule 3 by marks: a node is marked exactly if it doesn't fit. Assumes nothing.
use mathlib.Core.Path.{◌≡◌, refl, sym, ap, ◌∙◌}
use mathlib.Core.Bool.{Bool, true, false, not, ◌&&◌, ◌||◌, cond}
use mathlib.Core.List.{List, [], ◌∷◌}
use Prim.Native.Nat.{ℕ, ◌+◌, ◌≤◌, ◌<◌}
use native.Mathlib.Omega.{arith}
use lib.Dec.{leb, ltb, eqb}
use lib.ListN.{length}
use borrow.Author.Tests.{eqb-true, leb-true, leb-false, le-leb, lt-leb, lt-ltb, le-ltb}
use Rattle.paper.specs.Lists.{at, below, all, any, keep, lowest, within, one_if, ◌⇒◌}
use Rattle.paper.specs.Table.{nodes, edges, kind, owner, lower, upper, target as target_of, into, inputs, is_action, is_input, is_buffer, is_outgoing}
use Rattle.paper.proofs.Bools.{and_never}
use Rattle.paper.proofs.Members.{in_keep-below}
use Rattle.words.specs.Marks.{MarksOf, is_marked, placed}
use Rattle.words.proofs.Marks.{mark_test}
use Rattle.table.specs.Reading.{Spans}
use Rattle.table.specs.declared.Table.{Table}
use Rattle.choice_masks.specs.Masks.{Masked}
use Rattle.ends_masks.specs.Seating.{seats, served, action_fits, fits, homes}
use Rattle.ends_masks.proofs.Numbers.{all_alike}
use Rattle.choice_agree.specs.Agreeing.{took, starts_in, edge_wrong, pin_wrong, node_wrong}
use Rattle.choice_agree.proofs.Masks.{seats_mask}

-- ---- what edges and pins tell a node: those that r holds of, each for the node f, where s says of the node whether they are asked
module _ (s r ok : ℕ → Bool) (f : ℕ → ℕ) (i : ℕ) where
  abbrev mine : ℕ → Bool
  mine x = r x && eqb (f x) i

  told : (xs : List ℕ) → any (λ x. (r x && s (f x) && not (ok x)) && eqb (f x) i) xs ≡ s i && not (all ok (keep mine xs))
  told [] = sym (and_never (s i))
  told (x ∷ xs) =
      by (r x) (eqb (f x) i) (ok x) (s i) (s (f x)) (all ok (keep mine xs)) (any (λ x. (r x && s (f x) && not (ok x)) && eqb (f x) i) xs)
      (λ e. ap s (eqb-true (f x) i e)) (told xs)
      ∙ ap (λ (b : Bool). s i && not b) (sym (kept-first (mine x)))
    where
      kept-first : (b : Bool) → all ok (cond b (x ∷ keep mine xs) (keep mine xs)) ≡ cond b (ok x && all ok (keep mine xs)) (all ok (keep mine xs))
      kept-first true = refl
      kept-first false = refl

      by : (h e o a a' l rest : Bool) → (e ≡ true → a' ≡ a) → rest ≡ a && not l → ((h && a' && not o) && e) || rest ≡ a && not (cond (h && e) (o && l) l)
      by false e o a a' l rest q z = z
      by true false o a a' l rest q z = ap (λ (b : Bool). b || rest) (and_never (a' && not o)) ∙ z
      by true true true a a' l rest q z = ap (λ (b : Bool). (b && true) || rest) (and_never a') ∙ z
      by true true false true a' l rest q z = ap (λ (b : Bool). ((b && true) && true) || rest) (q refl)
      by true true false false a' l rest q z = ap (λ (b : Bool). ((b && true) && true) || rest) (q refl) ∙ z

-- ---- pins and nodes, asked part by part
over : (a b : ℕ) → not (leb a b) ≡ ltb b a
over a b = by (leb a b) refl
  where
    by : (x : Bool) → leb a b ≡ x → not x ≡ ltb b a
    by true e = sym (le-ltb b a (leb-true a b e))
    by false e = sym (lt-ltb b a (leb-false a b e))

module _ (t : List ℕ) (s : ℕ → Bool) (c : ℕ) (byTarget : List ℕ) (i : ℕ) where
  pub pin_other : is_input (kind t i) ≡ false → pin_wrong t s c byTarget i ≡ false
  unfolding pin_wrong
  pin_other e = rw e

  pub pin_idle : s (owner t i) ≡ false → pin_wrong t s c byTarget i ≡ false
  unfolding pin_wrong
  pin_idle e = rw (e, and_never (is_input (kind t i)))

  pub pin_low : is_input (kind t i) ≡ true → s (owner t i) ≡ true → took byTarget c i < lower t i → pin_wrong t s c byTarget i ≡ true
  unfolding pin_wrong
  pin_low e f l = rw (e, f, lt-leb (lower t i) (took byTarget c i) l)

  pub pin_high : is_input (kind t i) ≡ true → s (owner t i) ≡ true → lower t i ≤ took byTarget c i → pin_wrong t s c byTarget i ≡ ltb (upper t i) (took byTarget c i)
  unfolding pin_wrong
  pin_high e f l = rw (e, f, le-leb (lower t i) (took byTarget c i) l) (over (took byTarget c i) (upper t i))

  module _ (runs stock : List ℕ) where
    pub node-runs : s i ≡ true → not (eqb (at runs i) 0) ≡ true → node_wrong t s c byTarget runs stock i ≡ true
    unfolding node_wrong
    node-runs e f = rw (e, f)

    pub node_other : s i && not (eqb (at runs i) 0) ≡ false → is_buffer (kind t i) || is_outgoing (kind t i) ≡ false → node_wrong t s c byTarget runs stock i ≡ false
    unfolding node_wrong
    node_other e f = rw (e, f)

    pub node-room : s i && not (eqb (at runs i) 0) ≡ false → is_buffer (kind t i) || is_outgoing (kind t i) ≡ true
        → node_wrong t s c byTarget runs stock i ≡ ltb (upper t i) (at stock i + took byTarget c i)
    unfolding node_wrong
    node-room e f = rw (e, f) (over (at stock i + took byTarget c i) (upper t i))

-- ---- the marks of a choice c
module _ (t : List ℕ) (s : ℕ → Bool) (c i : ℕ) where
  edges-told : (byEdge : List ℕ) → placed (edge_wrong t s c byEdge) (target_of t) (edges t) i ≡ s i && not (all (λ e. eqb (took byEdge c e) 1) (into t i))
  unfolding edge_wrong into
  edges-told byEdge = told s (λ e. true) (λ e. eqb (took byEdge c e) 1) (target_of t) i (below (edges t))

  pins_told : (byTarget : List ℕ) → placed (pin_wrong t s c byTarget) (owner t) (nodes t) i ≡ s i && not (all (λ p. within (lower t p) (upper t p) (took byTarget c p)) (inputs t i))
  unfolding pin_wrong inputs
  pins_told byTarget = told s (λ p. is_input (kind t p)) (λ p. within (lower t p) (upper t p) (took byTarget c p)) (owner t) i (below (nodes t))

-- where words count the seats, and s says who starts, the node is marked exactly if it doesn't fit
module _ (t edge target home runs stock : List ℕ) (n c : ℕ) (s : ℕ → Bool) (byEdge byTarget : List ℕ)
    (by-edge : (e : ℕ) → e < edges t → took byEdge c e ≡ seats edge n c e) (by-target : (i : ℕ) → i < nodes t → took byTarget c i ≡ seats target n c i) where
  edges-seated : (i : ℕ) → all (λ e. eqb (took byEdge c e) 1) (into t i) ≡ all (λ e. eqb (seats edge n c e) 1) (into t i)
  unfolding into
  edges-seated i = all_alike (λ e. eqb (took byEdge c e) 1) (λ e. eqb (seats edge n c e) 1) (into t i) (λ e m. ap (λ (x : ℕ). eqb x 1) (by-edge e (in_keep-below _ (edges t) m).0))

  pins_seated : (i : ℕ) → all (λ p. within (lower t p) (upper t p) (took byTarget c p)) (inputs t i) ≡ all (λ p. within (lower t p) (upper t p) (seats target n c p)) (inputs t i)
  unfolding inputs
  pins_seated i =
      all_alike (λ p. within (lower t p) (upper t p) (took byTarget c p)) (λ p. within (lower t p) (upper t p) (seats target n c p)) (inputs t i)
      (λ p m. ap (λ (x : ℕ). within (lower t p) (upper t p) x) (by-target p (in_keep-below _ (nodes t) m).0))

  pub unfit_marked : (i : ℕ) → i < nodes t → s i ≡ is_action (kind t i) && served target home n c i
      → (placed (edge_wrong t s c byEdge) (target_of t) (edges t) i || placed (pin_wrong t s c byTarget) (owner t) (nodes t) i) || node_wrong t s c byTarget runs stock i
      ≡ not (fits t edge target home runs stock n c i)
  unfolding node_wrong fits action_fits
  unfit_marked i l e =
      rw (edges-told t s c i byEdge, pins_told t s c i byTarget, edges-seated i, pins_seated i, by-target i l, e)
      (by (is_action (kind t i) && served target home n c i) (eqb (at runs i) 0) (all (λ e. eqb (seats edge n c e) 1) (into t i))
      (all (λ p. within (lower t p) (upper t p) (seats target n c p)) (inputs t i)) (is_buffer (kind t i) || is_outgoing (kind t i)) (leb (at stock i + seats target n c i) (upper t i)))
    where
      by : (a r g p b m : Bool) → ((a && not g) || (a && not p)) || ((a && not r) || (b && not m)) ≡ not ((a ⇒ r && g && p) && (b ⇒ m))
      by true true true true true m = refl
      by true true true true false m = refl
      by true true true false b m = refl
      by true true false p b m = refl
      by true false true true b m = refl
      by true false true false b m = refl
      by true false false p b m = refl
      by false r g p true m = refl
      by false r g p false m = refl

-- ---- the lowest that doesn't fit
pub homes-marked : (t edge target home runs stock : List ℕ) (n c : ℕ) → lowest (λ i. not (fits t edge target home runs stock n c i)) (nodes t) ≡ homes t edge target home runs stock n c
unfolding homes
homes-marked t edge target home runs stock n c = refl

-- the marks of the passes, by masks of two columns and the marks of those that start
pub unfit_all : {t : List ℕ} {table : Table} (edge target home runs stock : List ℕ) (n c : ℕ) {byEdge byTarget starting unfit : List ℕ}
    → Spans t table → table.edges ≤ length byEdge → table.nodes ≤ length byTarget → Masked edge n byEdge → Masked target n byTarget
    → MarksOf (starts_in t target home n c) table.nodes starting
    → MarksOf (λ i. (placed (edge_wrong t (is_marked starting) c byEdge) (target_of t) (edges t) i || placed (pin_wrong t (is_marked starting) c byTarget) (owner t) (nodes t) i) || node_wrong t (is_marked starting) c byTarget runs stock i) table.nodes unfit
    → MarksOf (λ i. not (fits t edge target home runs stock n c i)) table.nodes unfit
unfit_all {t} {table} edge target home runs stock n c {byEdge} {byTarget} {starting} s le lt me mt b u = record {
  tell = λ i l.
      let en = s.edges-read in
      let nn = s.nodes-read in
      u.tell i l
      ∙ ap one_if
      (unfit_marked t edge target home runs stock n c (is_marked starting) byEdge byTarget (λ e g. seats_mask edge n c e (at byEdge e) (me.marks e (omega arith)))
      (λ j g. seats_mask target n c j (at byTarget j) (mt.marks j (omega arith))) i (omega arith) (mark_test b i l));
}
