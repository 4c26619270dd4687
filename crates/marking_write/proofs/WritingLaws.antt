-- Laws of writing a marking: what fields take, how a run of fields grows by one, that the fields' bytes are the marking's, and the reply then. Assumes nothing.
use mathlib.Core.Path.{◌≡◌, refl, sym, ap, ap₂, ◌∙◌}
use Prim.Native.Nat.{ℕ, suc, ◌+◌, ◌-◌, ◌*◌, ◌≤◌, ◌<◌}
use native.Mathlib.Omega.{arith}
use native.Mathlib.Nat.{add-zero, add-suc, suc-add}
use native.Mathlib.Numerals.{add-one}
use mathlib.Core.Bool.{Bool, true, false, cond}
use mathlib.Core.Logic.{⊎_elim}
use mathlib.Core.List.{List, [], ◌∷◌, ◌++◌, append-nil}
use lib.ListN.{length, take, drop, set, length-append}
use lib.Seq.{sets, set_comm}
use Rattle.paper.specs.Lists.{at, below, gather, one_if}
use Rattle.paper.specs.Bytes.{two, listed}
use Rattle.paper.specs.Table.{nodes, edges, kind, is_object_node, is_action}
use Rattle.paper.specs.Marking.{Marking, stockOf, runsOf, tokensOf, written, counted, node_fields, layout, encode}
use Rattle.paper.specs.Answers.{good}
use Rattle.paper.specs.Operations.{in_room, packed, Reply}
use Rattle.paper.proofs.Calls.{reply-short, reply-full}
use Rattle.paper.proofs.Lengths.{gather_append, gather-gather}
use Rattle.paper.proofs.Bools.{true_or_false}
use Rattle.wire.specs.Totals.{total}
use Rattle.wire.proofs.Laws.{sets_then, sets-front}
use Rattle.wire.proofs.Runs.{gather-same, length-total, part_length, run_more}
use Rattle.marking.specs.Reading.{edge_fields}
use Rattle.marking_held.specs.MarkingHeld.{Held, MarkingHeld, HeldInside}
use Rattle.marking_write.specs.declared.NodeHeld.{NodeHeld}
use Rattle.marking_write.specs.Writing.{node_held_at, NodeInside, size_as, node_size, edge_size, size_of, stock_bytes, field_bytes, node_bytes, edge_bytes}
use Rattle.marking.proofs.Laws.{layout_is}

-- ---- a stock
module _ (old extra : List ℕ) (h : NodeHeld) (s : NodeInside old extra h) where
  pub stock-is : (d : List ℕ) (to p : ℕ) → p ≡ to + 1 + 4 * h.kept
      → sets (sets (set d to (h.kept + h.more)) (to + 1) (take (4 * h.kept) (drop h.from old))) p (take (4 * h.more) (drop h.place extra))
      ≡ sets d to (stock_bytes old extra h)
  unfolding stock_bytes
  stock-is d to p e =
      sets_then (take (4 * h.kept) (drop h.from old)) (take (4 * h.more) (drop h.place extra)) (set d to (h.kept + h.more)) (to + 1) p
      (omega (arith, part_length old h.from (4 * h.kept) s.in_old))
      ∙ rw (add-one to)

  -- as the two copies leave it
  pub stock-written : (d : List ℕ) (to : ℕ) {e after : List ℕ} {p f q k m : ℕ} → f ≡ h.from → q ≡ h.place → k ≡ 4 * h.kept → m ≡ 4 * h.more
      → p ≡ to + 1 + 4 * h.kept → e ≡ sets (set d to (h.kept + h.more)) (to + 1) (take k (drop f old)) → after ≡ sets e p (take m (drop q extra))
      → after ≡ sets d to (stock_bytes old extra h)
  stock-written d to {p = p} ef eq ek em ep g a = a ∙ rw (g, ef, eq, em, ek) (stock-is d to p ep)

  length-stock : length (stock_bytes old extra h) ≡ 1 + 4 * (h.kept + h.more)
  unfolding stock_bytes
  length-stock =
      omega (
        arith,
        length-append (take (4 * h.kept) (drop h.from old)) (take (4 * h.more) (drop h.place extra)),
        part_length old h.from (4 * h.kept) s.in_old,
        part_length extra h.place (4 * h.more) s.in_extra,
      )

-- ---- the field of a node of kind k
module _ (k n : ℕ) where
  pub stock-size : is_object_node k ≡ true → size_as k n ≡ 1 + 4 * n
  unfolding size_as
  stock-size o = rw o

  module _ (o : is_object_node k ≡ false) where
    pub runs-size : is_action k ≡ true → size_as k n ≡ 1
    unfolding size_as
    runs-size a = rw (o, a)

    pub no_size : is_action k ≡ false → size_as k n ≡ 0
    unfolding size_as
    no_size a = rw (o, a)

-- what is read of node i says its size
pub size_same : (t kept more : List ℕ) (i : ℕ) {k v w r : ℕ} → k ≡ kind t i → v ≡ at kept i → w ≡ at more i → r ≡ size_as k (v + w) → r ≡ node_size t kept more i
size_same t kept more i ek ev ew e = e ∙ rw (ek, ev, ew)

module _ (k : ℕ) (old extra : List ℕ) (h : NodeHeld) where
  pub stock-bytes : is_object_node k ≡ true → field_bytes k old extra h ≡ stock_bytes old extra h
  unfolding field_bytes
  stock-bytes o = rw o

  module _ (o : is_object_node k ≡ false) where
    pub runs-bytes : is_action k ≡ true → field_bytes k old extra h ≡ h.runs ∷ []
    unfolding field_bytes
    runs-bytes a = rw (o, a)

    pub no_bytes : is_action k ≡ false → field_bytes k old extra h ≡ []
    unfolding field_bytes
    no_bytes a = rw (o, a)

  length-field : (is_object_node k ≡ true → NodeInside old extra h) → length (field_bytes k old extra h) ≡ size_as k (h.kept + h.more)
  length-field s = ⊎_elim stock other (true_or_false (is_object_node k))
    where
      stock : is_object_node k ≡ true → length (field_bytes k old extra h) ≡ size_as k (h.kept + h.more)
      stock o = ap length (stock-bytes o) ∙ length-stock old extra h (s o) ∙ sym (stock-size k (h.kept + h.more) o)

      other : is_object_node k ≡ false → length (field_bytes k old extra h) ≡ size_as k (h.kept + h.more)
      other o =
          ⊎_elim
          (λ a. ap length (runs-bytes o a) ∙ sym (runs-size k (h.kept + h.more) o a))
          (λ a. ap length (no_bytes o a) ∙ sym (no_size k (h.kept + h.more) o a))
          (true_or_false (is_action k))

pub length-node : (t old extra : List ℕ) (x : Held) → HeldInside t old extra x → (i : ℕ) → i < nodes t
    → length (node_bytes t old extra x i) ≡ node_size t x.kept x.more i
length-node t old extra x s i l = length-field (kind t i) old extra (node_held_at x i) (s.stock i l)

-- node i is written next, as what was read of it says
module _ (t old extra : List ℕ) (x : Held) (s : HeldInside t old extra x) (i : ℕ) (l : i < nodes t) {k : ℕ} (e : k ≡ kind t i) where
  pub node-inside : is_object_node k ≡ true → NodeInside old extra (node_held_at x i)
  node-inside o = s.stock i l (ap is_object_node (sym e) ∙ o)

  pub node-run : (d : List ℕ) {out after : List ℕ} {to : ℕ} → to ≡ 4 + total (node_size t x.kept x.more) i
      → out ≡ sets d 4 (gather (node_bytes t old extra x) (below i))
      → after ≡ sets out to (field_bytes k old extra (node_held_at x i)) → after ≡ sets d 4 (gather (node_bytes t old extra x) (below (i + 1)))
  node-run d {to = to} q o a =
      a ∙ rw (e, o) (run_more (node_bytes t old extra x) (node_size t x.kept x.more) d 4 to i (λ n h. length-node t old extra x s n (omega arith)) q)

-- ---- the count of edge j
module _ (t : List ℕ) (j : ℕ) where
  pub count-size : counted t j ≡ true → edge_size t j ≡ 1
  unfolding edge_size
  count-size c = rw c

  pub uncounted_size : counted t j ≡ false → edge_size t j ≡ 0
  unfolding edge_size
  uncounted_size c = rw c

module _ (t tokens : List ℕ) (j : ℕ) where
  pub count-bytes : counted t j ≡ true → edge_bytes t tokens j ≡ at tokens j ∷ []
  unfolding edge_bytes
  count-bytes c = rw c

  pub uncounted_bytes : counted t j ≡ false → edge_bytes t tokens j ≡ []
  unfolding edge_bytes
  uncounted_bytes c = rw c

  pub length-edge : length (edge_bytes t tokens j) ≡ edge_size t j
  length-edge =
      ⊎_elim
      (λ c. ap length (count-bytes c) ∙ sym (count-size t j c))
      (λ c. ap length (uncounted_bytes c) ∙ sym (uncounted_size t j c))
      (true_or_false (counted t j))

-- the count of edge j is written next
pub edge-run : (t tokens d : List ℕ) (start j : ℕ) {out after : List ℕ} {to : ℕ} → to ≡ start + total (edge_size t) j
    → out ≡ sets d start (gather (edge_bytes t tokens) (below j)) → after ≡ sets out to (edge_bytes t tokens j)
    → after ≡ sets d start (gather (edge_bytes t tokens) (below (j + 1)))
edge-run t tokens d start j {to = to} q o a = a ∙ rw o (run_more (edge_bytes t tokens) (edge_size t) d start to j (λ k h. length-edge t tokens k) q)

-- ---- the marking's own bytes
-- a run that is stored in front of another
set-behind : (xs d : List ℕ) (i p x : ℕ) → i < p → set (sets d p xs) i x ≡ sets (set d i x) p xs
set-behind [] d i p x l = refl
set-behind (y ∷ ys) d i p x l =
    let n : p ≡ i → ⊥ = λ e. omega arith in
    set-behind ys (set d p y) i (suc p) x (omega arith) ∙ ap (λ (z : List ℕ). sets z (suc p) ys) (set_comm d p i y x n)

sets-before : (xs ys d : List ℕ) (i : ℕ) → sets (sets d (i + length xs) ys) i xs ≡ sets d i (xs ++ ys)
sets-before [] ys d i = rw add-zero
sets-before (x ∷ xs) ys d i =
    ap (λ (z : List ℕ). sets z (suc i) xs) (set-behind ys d i (i + suc (length xs)) x (omega arith))
    ∙ rw (add-suc, ← suc-add) (sets-before xs ys (set d i x) (suc i))

module _ {t : List ℕ} {m : Marking} {old extra : List ℕ} {x : Held} (b : MarkingHeld t m old extra x) where
  node-is : (i : ℕ) → i < nodes t → gather (written m) (node_fields t i) ≡ node_bytes t old extra x i
  unfolding written field_bytes stock_bytes
  node-is i l = by (is_object_node (kind t i)) (is_action (kind t i)) refl refl
    where
      by : (o a : Bool) → is_object_node (kind t i) ≡ o → is_action (kind t i) ≡ a
          → gather (written m) (cond o (stockOf i ∷ []) (cond a (runsOf i ∷ []) [])) ≡ cond o (stock_bytes old extra (node_held_at x i)) (cond a (at x.runs i ∷ []) [])
      by true a e f = let s = b.stocks i l e in append-nil (listed (m.stock i)) ∙ ap₂ (λ (n : ℕ) (l : List ℕ). n ∷ l) s.many s.stand
      by false true e f = ap (λ (n : ℕ). n ∷ []) (sym (b.running i l f))
      by false false e f = refl

  edge-is : (j : ℕ) → j < edges t → gather (written m) (edge_fields t j) ≡ edge_bytes t x.tokens j
  unfolding written edge_bytes
  edge-is j l = by (counted t j) refl
    where
      by : (c : Bool) → counted t j ≡ c → gather (written m) (cond c (tokensOf j ∷ []) []) ≡ cond c (at x.tokens j ∷ []) []
      by true e = ap (λ (n : ℕ). n ∷ []) (sym (b.counts j l e))
      by false e = refl

  abbrev node_part : List ℕ
  node_part = gather (node_bytes t old extra x) (below (nodes t))

  abbrev edge_part : List ℕ
  edge_part = gather (edge_bytes t x.tokens) (below (edges t))

  node-length : length node_part ≡ total (node_size t x.kept x.more) (nodes t)
  node-length = length-total _ _ (nodes t) (λ i l. length-field (kind t i) old extra (node_held_at x i) (λ o. (b.stocks i l o).inside))

  parts_are : gather (written m) (layout t) ≡ node_part ++ edge_part
  parts_are =
      ap (gather (written m)) (layout_is t)
      ∙ gather_append (written m) (gather (node_fields t) (below (nodes t))) (gather (edge_fields t) (below (edges t)))
      ∙ ap₂ (λ (x y : List ℕ). x ++ y)
      (gather-gather (written m) (node_fields t) (below (nodes t)) ∙ gather-same _ _ (nodes t) node-is)
      (gather-gather (written m) (edge_fields t) (below (edges t)) ∙ gather-same _ _ (edges t) edge-is)

  -- the size is that of the marking's bytes
  size_is : length (encode t m) ≡ size_of t x.kept x.more
  unfolding encode size_of
  size_is =
      let e : length edge_part ≡ total (edge_size t) (edges t) = length-total _ _ (edges t) (λ j l. length-edge t x.tokens j) in
      omega (arith, node-length, ap length parts_are, length-append node_part edge_part)

  -- the nodes' fields, the edges' counts behind them and the head in front are the marking at the front
  write_is : (d : List ℕ) {of-nodes of-edges after : List ℕ} {len state p : ℕ} → len ≡ size_of t x.kept x.more
      → p ≡ 4 + total (node_size t x.kept x.more) (nodes t) → state ≡ one_if m.ended → len ≤ length d → of-nodes ≡ sets d 4 node_part
      → of-edges ≡ sets of-nodes p edge_part → after ≡ sets of-edges 0 (two (len - 2) ++ (1 ∷ state ∷ [])) → after ≡ encode t m ++ drop (length (encode t m)) d
  unfolding encode
  write_is d {len = len} {state = state} {p = p} e q f room n g a =
      let head = two (len - 2) ++ (1 ∷ state ∷ []) in
      let k : len - 2 ≡ length (1 ∷ one_if m.ended ∷ gather (written m) (layout t)) = omega (arith, size_is) in
      let w : head ++ (node_part ++ edge_part) ≡ encode t m = rw (k, f, ← parts_are) in
      a
      ∙ ap (λ (l : List ℕ). sets l 0 head) (g ∙ ap (λ (l : List ℕ). sets l p edge_part) n ∙ sets_then node_part edge_part d 4 p (omega (arith, node-length)))
      ∙ sets-before head (node_part ++ edge_part) d 0
      ∙ ap (sets d 0) w
      ∙ sets-front (encode t m) d (omega (arith, size_is))

  -- ---- the reply into the bytes d, which the marking of len bytes has room in or not
  module _ (d : List ℕ) {len w : ℕ} (e : len ≡ size_of t x.kept x.more) where
    pub short-is : length d < len → w ≡ packed 17 0 0 → Reply (in_room (length d) (good (encode t m))) w d d
    short-is l h = reply-short (encode t m) d len w (size_is ∙ sym e) l h

    -- as the three writers leave it
    pub full_is : {of-nodes of-edges after : List ℕ} {state p : ℕ} → len ≤ length d → p ≡ 4 + total (node_size t x.kept x.more) (nodes t)
        → state ≡ one_if m.ended → of-nodes ≡ sets d 4 node_part → of-edges ≡ sets of-nodes p edge_part
        → after ≡ sets of-edges 0 (two (len - 2) ++ (1 ∷ state ∷ [])) → w ≡ packed 0 0 len → Reply (in_room (length d) (good (encode t m))) w d after
    full_is {after = after} l q f n g a h = reply-full (encode t m) d after len w (size_is ∙ sym e) l h (write_is d e q f l n g a)
