-- The rows that are ends, gathered edge by edge, each with its edge's key. Assumes nothing.
use mathlib.Core.Path.{◌≡◌, refl, sym, ap, ap₂, ◌∙◌, subst}
use mathlib.Core.List.{List, [], ◌∷◌, ◌++◌, append-nil}
use mathlib.Core.Bool.{true, false, cond}
use Prim.Native.Nat.{ℕ, zero, suc, ◌+◌, ◌*◌, ◌-◌, ◌%◌, ◌≤◌, ◌<◌}
use native.Mathlib.Omega.{arith}
use native.Mathlib.Decide.{dec_lt}
use lib.ListN.{length, set, length-append}
use lib.Seq.{get_or-set_same, get_or-set_other}
use Rattle.paper.specs.Lists.{at, from, below, gather}
use Rattle.paper.specs.Limits.{limits}
use Rattle.paper.specs.Table.{edges, kind, target, is_control_node}
use Rattle.paper.proofs.Lists.{below_more, below_split}
use Rattle.paper.proofs.Lengths.{length_from, gather_append}
use Rattle.offers.specs.Rows.{Ranges}
use Rattle.offers.proofs.Segments.{gather_snoc}
use Rattle.ends_paths.specs.Blocks.{run}
use Rattle.ends_paths.proofs.Runs.{run_split, run-same}
use Rattle.ends_paths.proofs.Walks.{length_run}
use Rattle.ends_order.specs.Order.{Grouped}
use Rattle.ends.specs.Slots.{ends_on, end_rows, key_of, Added, Keyed}

-- ---- rows added
-- one cell more behind the first n
put-kept : (l : List ℕ) (n k v s : ℕ) → s < n → at (set l (n + k) v) s ≡ at l s
put-kept l n k v s h = get_or-set_other l (n + k) s v 0 (omega arith)

put-more : (f : ℕ → ℕ) (l : List ℕ) (n k v : ℕ) → n + k < length l → v ≡ f k → ((i : ℕ) → i < k → at l (n + i) ≡ f i) → (i : ℕ) → i < k + 1 → at (set l (n + k) v) (n + i) ≡ f i
put-more f l n k v room is h i less = elim (dec_lt i k) [
  | yes w ↦ get_or-set_other l (n + k) (n + i) v 0 (omega arith) ∙ h i w
  | no w ↦ let e : i ≡ k = omega arith in subst (λ z. at (set l (n + k) v) (n + z) ≡ f z) (sym e) (get_or-set_same l (n + k) v 0 room ∙ is)
]

pub added_none : (old oldKeys : List ℕ) (n a key : ℕ) → Added old old oldKeys oldKeys n a (a - a) key
added_none old oldKeys n a key = record {
  rows-kept = λ s h. refl;
  rows_added = λ i h. absurd (omega arith);
  keys_kept = λ s h. refl;
  keys_added = λ i h. absurd (omega arith);
}

pub added_more : (old found oldKeys keys : List ℕ) (n a i key : ℕ) → a ≤ i → n + (i - a) < length found → n + (i - a) < length keys → Added old found oldKeys keys n a (i - a) key
    → Added old (set found (n + (i - a)) i) oldKeys (set keys (n + (i - a)) key) n a (i + 1 - a) key
added_more old found oldKeys keys n a i key l room roomKeys g =
    let e : i - a + 1 ≡ i + 1 - a = omega arith in
    subst (λ z. Added old (set found (n + (i - a)) i) oldKeys (set keys (n + (i - a)) key) n a z key) e (record {
      rows-kept = λ s h. put-kept found n (i - a) i s h ∙ g.rows-kept s h;
      rows_added = put-more (λ j. a + j) found n (i - a) i room (omega arith) g.rows_added;
      keys_kept = λ s h. put-kept keys n (i - a) key s h ∙ g.keys_kept s h;
      keys_added = put-more (λ j. key) keys n (i - a) key roomKeys refl g.keys_added;
    })

run-from : (f : ℕ → ℕ) (lo a m : ℕ) → ((i : ℕ) → i < m → f (lo + i) ≡ a + i) → run f lo m ≡ from a m
run-from f lo a zero h = refl
run-from f lo a (suc m) h =
    ap₂ (λ z zs. z ∷ zs) (ap f (let e : lo ≡ lo + 0 = omega arith in e) ∙ h 0 (omega arith) ∙ (let e : a + 0 ≡ a = omega arith in e))
    (run-from f (suc lo) (suc a) m (λ i l. ap f (let e : suc lo + i ≡ lo + suc i = omega arith in e) ∙ h (suc i) (omega arith) ∙ (let e : a + suc i ≡ suc a + i = omega arith in e)))

module _ {old found oldKeys keys : List ℕ} {n a m key : ℕ} (g : Added old found oldKeys keys n a m key) where
  added_run : run (at found) 0 (n + m) ≡ run (at old) 0 n ++ from a m
  added_run =
      run_split (at found) 0 n m
      ∙ ap₂ (λ x y. x ++ y) (run-same (at found) (at old) 0 n (λ j u v. g.rows-kept j (omega arith)))
      (run-from (at found) (0 + n) a m (λ i l. ap (at found) (let e : 0 + n + i ≡ n + i = omega arith in e) ∙ g.rows_added i l))

  -- the slots of the rows added have the key
  pub keyed-more : {t c d : List ℕ} (e : ℕ) → e < edges t → e < 256 → a ≡ at c e → a + m ≡ at d e → key ≡ key_of t e
      → ((s : ℕ) → s < n → Keyed t c d old oldKeys s) → (s : ℕ) → s < n + m → Keyed t c d found keys s
  keyed-more e l byte p q r h s u = elim (dec_lt s n) [
    | yes w ↦ let k = h s w in record {
      edge = k.edge;
      is-edge = k.is-edge;
      is_byte = k.is_byte;
      from_a = omega (arith, g.rows-kept s w, k.from_a);
      to_b = omega (arith, g.rows-kept s w, k.to_b);
      key = g.keys_kept s w ∙ k.key;
    }
    | no w ↦
        let z : n + (s - n) ≡ s = omega arith in
        let row : at found s ≡ a + (s - n) = ap (at found) (sym z) ∙ g.rows_added (s - n) (omega arith) in
        record {
          edge = e;
          is-edge = l;
          is_byte = byte;
          from_a = omega arith;
          to_b = omega arith;
          key = ap (at keys) (sym z) ∙ g.keys_added (s - n) (omega arith) ∙ r;
        }
  ]

-- the first n slots have keys of edges below e, and those of one key stand side by side
pub record Rising (keys : List ℕ) (n e : ℕ) : Type 0 where
  pub lower : (s : ℕ) → s < n → at keys s % 256 < e
  pub grouped : Grouped keys n

pub rising_none : (keys : List ℕ) → Rising keys 0 0
rising_none keys = record { lower = λ s l. absurd (omega arith); grouped = λ a b l m. absurd (omega arith) }

pub rising_skip : {keys : List ℕ} {n e : ℕ} → Rising keys n e → Rising keys n (e + 1)
rising_skip r = record { lower = λ s l. let w = r.lower s l in omega arith; grouped = r.grouped }

pub rising-more : {old found oldKeys keys : List ℕ} {n a m key e : ℕ} → Added old found oldKeys keys n a m key → key % 256 ≡ e → Rising oldKeys n e
    → Rising keys (n + m) (e + 1)
rising-more {keys = keys} {n = n} {m = m} {key = key} {e = e} g is r = record {
  lower = λ s l. elim (dec_lt s n) [
    | yes w ↦ let k = g.keys_kept s w in let h = r.lower s w in omega arith
    | no w ↦ let k = new s (omega arith) l in omega arith
  ];
  grouped = λ a b l h same. elim (dec_lt b n) [
    | yes w ↦ g.keys_kept a (omega arith) ∙ r.grouped a b l w (sym (g.keys_kept a (omega arith)) ∙ same ∙ g.keys_kept b w) ∙ sym (g.keys_kept (a + 1) (omega arith))
    | no w ↦ elim (dec_lt a n) [
      | yes u ↦ let p = g.keys_kept a u in let q = r.lower a u in let k = new b (omega arith) h in absurd (omega arith)
      | no u ↦ new a (omega arith) (omega arith) ∙ sym (new (a + 1) (omega arith) (omega arith))
    ]
  ];
}
  where
    new : (s : ℕ) → n ≤ s → s < n + m → at keys s ≡ key
    new s u l = let z : s ≡ n + (s - n) = omega arith in ap (at keys) z ∙ g.keys_added (s - n) (omega arith)

pub key-is : (t : List ℕ) (node e : ℕ) → node ≡ target t e → 256 * node + e ≡ key_of t e
unfolding key_of
key-is t node e h = ap (λ z. 256 * z + e) h

-- and they are within the list
pub keyed-inside : {t a b found keys : List ℕ} {s c : ℕ} → Ranges a b c → Keyed t a b found keys s → at found s < c
keyed-inside h k = omega (arith, (h k.edge).1, k.to_b)

-- ---- edge by edge
module _ (t a b : List ℕ) where
  pub rows_none : end_rows t a b 0 ≡ []
  unfolding end_rows
  rows_none = refl

  rows_snoc : (e : ℕ) → end_rows t a b (e + 1) ≡ end_rows t a b e ++ ends_on t a b e
  unfolding end_rows
  rows_snoc e = ap (gather (ends_on t a b)) (below_more e) ∙ gather_snoc (ends_on t a b) (below e) e

  rows_longer : (e n : ℕ) → e < n → length (end_rows t a b e) + length (ends_on t a b e) ≤ length (end_rows t a b n)
  unfolding end_rows
  rows_longer e n l =
      let g = ap length (ap (gather (ends_on t a b)) (below_split e n l) ∙ gather_append (ends_on t a b) (below e) (e ∷ from (suc e) (n - suc e))) in
      omega (arith, g, length-append (gather (ends_on t a b) (below e)) (gather (ends_on t a b) (e ∷ from (suc e) (n - suc e))), length-append (ends_on t a b e) (gather (ends_on t a b) (from (suc e) (n - suc e))))

  module _ (found : List ℕ) (n e : ℕ) (g : run (at found) 0 n ≡ end_rows t a b e) where
    pub rows_skip : is_control_node (kind t (target t e)) ≡ true → run (at found) 0 n ≡ end_rows t a b (e + 1)
    rows_skip h = g ∙ sym (rows_snoc e ∙ ap (λ z. end_rows t a b e ++ cond z [] (from (at a e) (at b e - at a e))) h ∙ append-nil (end_rows t a b e))

    module _ (h : is_control_node (kind t (target t e)) ≡ false) where
      pub rows_more : {found' oldKeys keys : List ℕ} {x y key : ℕ} → x ≡ at a e → y ≡ at b e → Added found found' oldKeys keys n x (y - x) key
          → run (at found') 0 (n + (y - x)) ≡ end_rows t a b (e + 1)
      rows_more {x = x} {y = y} p q r =
          added_run r
          ∙ ap₂ (λ u v. u ++ v) g (ap₂ (λ u v. from u (v - u)) p q)
          ∙ sym (rows_snoc e ∙ ap (λ z. end_rows t a b e ++ cond z [] (from (at a e) (at b e - at a e))) h)

      pub rows-many : (m : ℕ) → e < m → limits.most_ends < n + (at b e - at a e) → limits.most_ends < length (end_rows t a b m)
      rows-many m l k =
          omega (arith, rows_longer e m l, ap length g, length_run (at found) 0 n, ap (λ z. length (cond z [] (from (at a e) (at b e - at a e)))) h, length_from (at a e) (at b e - at a e))
