-- Laws of reading at a place: what a field's reader answers, and what is then taken up. Assumes nothing.
use mathlib.Core.Path.{◌≡◌, refl, sym, ap, ap₂, ◌∙◌}
use Prim.Native.Nat.{ℕ, suc, ◌+◌, ◌-◌, ◌*◌, ◌≤◌, ◌<◌}
use native.Mathlib.Omega.{arith}
use mathlib.Core.Bool.{Bool, true, false, not, ◌&&◌, ◌||◌, cond, beq}
use mathlib.Core.List.{List, [], ◌∷◌, ◌++◌, append-nil}
use mathlib.Core.Option.{Option as Maybe, none, some}
use lib.Dec.{leb, ltb, eqb}
use lib.ListN.{length, drop, set, length-drop, length-append}
use lib.Seq.{get_or-set_same, get_or-set_other, get_or-drop, take_at, drop-cons}
use borrow.Author.Tests.{eq-eqb, ne_eqb, eqb-true, eqb-false, ltb-true, le-leb, lt-leb}
use Rattle.paper.specs.Lists.{at, all, from, below, keep, each, gather, one_if, within, ◌⇒◌}
use Rattle.paper.specs.Answers.{good}
use Rattle.paper.specs.Bytes.{go_on, ◌>>=◌, done, fail, whole, framed, byte, values_read, up_to, four, listed}
use Rattle.paper.specs.Table.{nodes, edges, is_pin, is_outgoing, kind, owner, lower, upper, is_input, source, is_object, is_initial, is_object_node, is_action, may_leave}
use Rattle.paper.specs.Marking.{Marking, blank, Field, stockOf, runsOf, tokensOf, written, counted, node_fields, field_read, fields_read, layout, pin_fine, cleared, marking_fine, marking_read, marking}
use Rattle.paper.proofs.Members.{In, Distinct, here as in-front, in-none, in_one}
use Rattle.paper.proofs.Lengths.{gather_append, drop_head}
use Rattle.paper.proofs.Counts.{all_append, all-gather}
use Rattle.paper.proofs.Fields.{fields_append, node-once, node-only, not_both}
use Rattle.paper.proofs.Bools.{never, and-true, if_true}
use Rattle.paper.proofs.Lists.{all-below, below_more, below_split}
use Rattle.paper.specs.Limits.{limits}
use Rattle.paper.proofs.Tables.{NodeFields, upper_fits}
use Rattle.paper.proofs.Bytes.{Bytes, never_some, same_read, went_on, length-listed}
use Rattle.paper.proofs.Cursor.{byte_at, byte-none}
use Rattle.paper.proofs.OneMarking.{Taken, fields_are, content_read, put, put_ended, field_reads}
use Rattle.table.specs.declared.Table.{Table}
use Rattle.table.specs.Reading.{table_read}
use Rattle.table.proofs.Reading.{read-good as table-read, read-spans}
use Rattle.marking.specs.Reading.{Reads, NodeRead, EdgeRead, NodesRead, EdgesRead, edge_fields, node_clear, edge_clear, Head, Walked, Walk}
use Rattle.marking.specs.Values.{ValuesNoted}
use Rattle.std.specs.Prelude.{Option, Some, None}

-- what is read, made into something else
pub reads_as : {A B : Type 0} (f : A → B) (r : Option ℕ) (o : Maybe (A × List ℕ)) (b : List ℕ) → Reads r o b → Reads r (go_on o (λ x. done (f x))) b
reads_as f (Some q) o b h = (f h.0, rw h.1, h.2)
reads_as f None o b h = rw h

-- ---- a node's field
module _ (t : List ℕ) (i : ℕ) (m : Marking) (r : Option ℕ) (b rest : List ℕ) where
  pub stock_reads : is_object_node (kind t i) ≡ true → Reads r (values_read (upper t i) rest) b → Reads r (fields_read t (node_fields t i) m rest) b
  unfolding field_read
  stock_reads e h = rw e (reads_as (λ x. x) r _ b (reads_as _ r (values_read (upper t i) rest) b h))

  pub runs_reads : is_object_node (kind t i) ≡ false → is_action (kind t i) ≡ true → Reads r (up_to 1 rest) b → Reads r (fields_read t (node_fields t i) m rest) b
  unfolding field_read
  runs_reads e a h = rw (e, a) (reads_as (λ x. x) r _ b (reads_as _ r (up_to 1 rest) b h))

pub no_field : (t : List ℕ) (i : ℕ) (m : Marking) (rest : List ℕ) → is_object_node (kind t i) ≡ false → is_action (kind t i) ≡ false → fields_read t (node_fields t i) m rest ≡ some (m, rest)
no_field t i m rest e a = rw (e, a)

-- a field of node i or of edge i is none of another
abbrev numbered : ℕ → Field → Bool
numbered i (stockOf n) = eqb n i
numbered i (runsOf n) = eqb n i
numbered i (tokensOf n) = eqb n i

other_field : (i : ℕ) (g f : Field) → numbered i g ≡ false → numbered i f ≡ true → g ≡ f → ⊥
other_field i g f n y e = never (numbered i f) y (ap (numbered i) (sym e) ∙ n)

-- ---- a run of fields, F i the i-th
-- from marking a and place o on, the first i are read into m, the bytes after them start at p, and of each that was read N m k is known
pub record SoFar (t b : List ℕ) (F : ℕ → List Field) (N : Marking → ℕ → Type 0) (a : Marking) (o p i : ℕ) : Type 0 where
  pub m : Marking
  pub read : fields_read t (gather F (below i)) a (drop o b) ≡ some (m, drop p b)
  pub known : (k : ℕ) → k < i → N m k

module _ {t b : List ℕ} {F : ℕ → List Field} {N : Marking → ℕ → Type 0} (a : Marking) (o : ℕ) where
  pub run_begin : SoFar t b F N a o o 0
  run_begin = record { m = a; read = refl; known = λ k l. absurd (omega arith) }

  -- one field more: what is known then is known of it, and still of the others
  run_step : {N' : Marking → ℕ → Type 0} {p q i : ℕ} → Distinct (F i) → Bytes b
      → ((a m : Marking) → Taken t (F i) a (drop p b) m (drop q b) → N' m i)
      → ((k : ℕ) (a m : Marking) → eqb k i ≡ false → Taken t (F i) a (drop p b) m (drop q b) → N a k → N' m k)
      → SoFar t b F N a o p i → ((m : Marking) → Reads (Some q) (fields_read t (F i) m (drop p b)) b) → SoFar t b F N' a o q (i + 1)
  run_step {N'} {p} {q} {i} once u here still s h =
      let x = h s.m in
      let w = fields_are t (F i) s.m (drop p b) x.0 (drop q b) once (λ k. rw (get_or-drop p b k 0) (u (p + k))) x.1 in
      record {
        m = x.0;
        read = rw (below_more i, gather_append F (below i) (i ∷ []), append-nil (F i), fields_append, s.read) x.1;
        known = λ k n. by k (eqb k i) refl n s.m x.0 w s.known;
      }
    where
      by : (k : ℕ) (c : Bool) → eqb k i ≡ c → k < i + 1 → (a m : Marking) → Taken t (F i) a (drop p b) m (drop q b) → ((k : ℕ) → k < i → N a k) → N' m k
      by k true e n a m w z = rw (eqb-true k i e) (here a m w)
      by k false e n a m w z = let d : k ≡ i → ⊥ = eqb-false k i e in still k a m e w (z k (omega arith))

  pub run_cut : (p i n : ℕ) → i < n → SoFar t b F N a o p i
      → ((m : Marking) → fields_read t (F i) m (drop p b) ≡ none) → fields_read t (gather F (below n)) a (drop o b) ≡ none
  run_cut p i n l s h =
      rw (below_split i n l, gather_append F (below i) (i ∷ from (suc i) (n - suc i)), fields_append, s.read, fields_append, h s.m)

-- ---- the bytes of one field, from place p to place q
module _ (b : List ℕ) (p q : ℕ) where
  pub field-length : (w : List ℕ) → drop p b ≡ w ++ drop q b → p ≤ length b → q ≤ length b → q ≡ p + length w
  field-length w h lp lq = omega (arith, length-drop p b, length-drop q b, ap length h, length-append w (drop q b))

  -- a stock has its values behind the count
  pub stock_noted : (vs : List ℕ) → drop p b ≡ listed vs ++ drop q b → ValuesNoted b vs (p + 1) (length vs)
  stock_noted vs h =
      let rest = gather four vs ++ drop q b in
      let d = drop_head b rest p (length vs) h in
      let e : drop (p + 1) b ≡ rest =
      let z : at b p ∷ drop (suc p) b ≡ length vs ∷ rest = sym (drop-cons b p 0 d.0) ∙ h in
      let n : p + 1 ≡ suc p = omega arith in
      rw n (cc) in
      record {
        many = refl;
        stand = rw e (sym (take_at (gather four vs) (drop q b) (4 * length vs) (omega (arith, length-listed vs))));
        inside = omega (arith, length-listed vs, length-drop p b, ap length h, length-append (listed vs) (drop q b));
      }

-- what `first_of` says of that field
abbrev pub First : List ℕ → ℕ → ℕ → ℕ → Type 0
First b p q x = (p < q → x ≡ at b p) × (q ≤ p → x ≡ 0)

-- ---- the nodes' fields
module _ (t b : List ℕ) (p q i : ℕ) (lp : p ≤ length b) (lq : q ≤ length b) where
  module _ (a m : Marking) (w : Taken t (node_fields t i) a (drop p b) m (drop q b)) where
    stock-bytes : is_object_node (kind t i) ≡ true → drop p b ≡ listed (m.stock i) ++ drop q b
    unfolding written
    stock-bytes o = rw o at w.stand.parts ∙ ap (λ (l : List ℕ). l ++ drop q b) (append-nil (listed (m.stock i)))

    runs-byte : is_action (kind t i) ≡ true → drop p b ≡ one_if (m.runs i) ∷ drop q b
    unfolding written
    runs-byte r = rw (not_both (kind t i) r, r) at w.stand.parts

    no_bytes : is_object_node (kind t i) ≡ false → is_action (kind t i) ≡ false → drop p b ≡ drop q b
    no_bytes o r = rw (o, r) at w.stand.parts

    stock-room : is_object_node (kind t i) ≡ true → length (m.stock i) ≤ upper t i
    stock-room o = (w.fit (stockOf i) (rw o (in-front refl))).0

    node_here : (x : ℕ) → First b p q x → NodeRead t m b i (p + 1) x
    node_here x f = record {
      stock = λ o.
          let h = stock-bytes o in
          let n = field-length b p q (listed (m.stock i)) h lp lq in
          rw (f.0 (omega arith) ∙ (drop_head b (gather four (m.stock i) ++ drop q b) p (length (m.stock i)) h).1) (stock_noted b p q (m.stock i) h);
      room = stock-room;
      runs = λ r.
          let h = runs-byte r in
          let n = field-length b p q (one_if (m.runs i) ∷ []) h lp lq in
          f.0 (omega arith) ∙ (drop_head b (drop q b) p (one_if (m.runs i)) h).1;
      bare = λ o r. f.1 (omega (arith, field-length b p q [] (no_bytes o r) lp lq));
    }

    -- a stock is the longest
    field-short : upper t i ≤ limits.most_upper → q ≤ p + 65
    field-short u = by (is_object_node (kind t i)) refl (is_action (kind t i)) refl
      where
        by : (o : Bool) → is_object_node (kind t i) ≡ o → (r : Bool) → is_action (kind t i) ≡ r → q ≤ p + 65
        by true o r e = omega (arith, field-length b p q (listed (m.stock i)) (stock-bytes o) lp lq, length-listed (m.stock i), stock-room o)
        by false o true r = omega (arith, field-length b p q (one_if (m.runs i) ∷ []) (runs-byte r) lp lq)
        by false o false r = omega (arith, field-length b p q [] (no_bytes o r) lp lq)

  pub node-short : NodeFields t limits i → Bytes b → ((m : Marking) → Reads (Some q) (fields_read t (node_fields t i) m (drop p b)) b) → q ≤ p + 65
  node-short f u h =
      let x = h (blank false) in
      field-short (blank false) x.0
      (fields_are t (node_fields t i) (blank false) (drop p b) x.0 (drop q b) (node-once t i) (λ k. rw (get_or-drop p b k 0) (u (p + k))) x.1)
      (upper_fits f)

node-still : (t b : List ℕ) (i k f v : ℕ) (a m : Marking) (c d : List ℕ) → eqb k i ≡ false → Taken t (node_fields t i) a c m d → NodeRead t a b k f v → NodeRead t m b k f v
node-still t b i k f v a m c d n w h =
    let s : a.stock k ≡ m.stock k = w.kept (stockOf k) (node-only t i (stockOf k) n) in
    let r : a.runs k ≡ m.runs k = w.kept (runsOf k) (node-only t i (runsOf k) n) in
    record { stock = λ o. rw s at (h.stock o); room = λ o. rw s at (h.room o); runs = λ o. rw r at (h.runs o); bare = h.bare }

-- the first i nodes are read, and taken up
abbrev pub NodesSoFar : List ℕ → List ℕ → Bool → List ℕ → List ℕ → ℕ → ℕ → Type 0
NodesSoFar t b e from kept p i = SoFar t b (node_fields t) (λ m k. NodeRead t m b k (at from k) (at kept k)) (blank e) 4 p i

pub node-step : (t b from kept : List ℕ) (p q i x : ℕ) → Bytes b → i < length from → i < length kept → p ≤ length b → q ≤ length b → First b p q x
    → (e : Bool) → NodesSoFar t b e from kept p i → ((m : Marking) → Reads (Some q) (fields_read t (node_fields t i) m (drop p b)) b)
    → NodesSoFar t b e (set from i (p + 1)) (set kept i x) q (i + 1)
node-step t b from kept p q i x u lf lk lp lq f e =
    run_step (blank e) 4 (node-once t i) u
    (λ a m w. rw (get_or-set_same from i (p + 1) 0 lf, get_or-set_same kept i x 0 lk) (node_here t b p q i lp lq a m w x f))
    (λ k a m n w h.
    let d : k ≡ i → ⊥ = eqb-false k i n in
    rw (get_or-set_other from i k (p + 1) 0 d, get_or-set_other kept i k x 0 d) (node-still t b i k (at from k) (at kept k) a m (drop p b) (drop q b) n w h))

-- ---- the edges' counts
-- in a good table the kind of its source says whether an edge has a count: what leaves an initial node or an action is a control edge
by_kind : (o : Bool) (k : ℕ) → k ≤ 13 → may_leave o k ≡ true → within 1 2 k ≡ not o && (is_initial k || is_action k)
by_kind o k l h = same _ _ (if_true (may_leave o k) _ (by o) h)
  where
    by : (o : Bool) → (may_leave o k ⇒ beq (within 1 2 k) (not o && (is_initial k || is_action k))) ≡ true
    by true = all-below (λ k. may_leave true k ⇒ beq (within 1 2 k) false) 14 refl k (omega arith)
    by false = all-below (λ k. may_leave false k ⇒ beq (within 1 2 k) (is_initial k || is_action k)) 14 refl k (omega arith)

    same : (a b : Bool) → beq a b ≡ true → a ≡ b
    same true true e = refl
    same true false e = sym e
    same false true e = e
    same false false e = refl

pub counted_by_kind : (t : List ℕ) {x : Table} → table_read t ≡ good x → (j : ℕ) → j < x.edges → within 1 2 (kind t (source t j)) ≡ counted t j
unfolding counted
counted_by_kind t h j l =
    let s = read-spans t h in
    let e = (table-read t h).edge j (omega arith) in
    by_kind (is_object t j) (kind t (source t j)) ((table-read t h).node (source t j) e.source_fits).kind_to e.may_leave_is

module _ (t : List ℕ) (j : ℕ) (m : Marking) (b : List ℕ) (p : ℕ) where
  pub uncounted_reads : counted t j ≡ false → fields_read t (edge_fields t j) m (drop p b) ≡ some (m, drop p b)
  uncounted_reads c = rw c

  pub counted_reads : counted t j ≡ true → p < length b → Reads (Some (p + 1)) (fields_read t (edge_fields t j) m (drop p b)) b
  unfolding field_read
  counted_reads c l = rw c (reads_as (λ x. x) (Some (p + 1)) _ b (reads_as _ (Some (p + 1)) (byte (drop p b)) b (at b p, byte_at b p l, omega arith)))

  pub counted_none : counted t j ≡ true → length b ≤ p → fields_read t (edge_fields t j) m (drop p b) ≡ none
  unfolding field_read
  counted_none c l = rw (c, byte-none b p l)

edge-once : (t : List ℕ) (j : ℕ) → Distinct (edge_fields t j)
edge-once t j = by (counted t j)
  where
    by : (c : Bool) → Distinct (cond c (tokensOf j ∷ []) [])
    by true = (λ m. in-none m, tt)
    by false = tt

edge-only : (t : List ℕ) (j : ℕ) (g : Field) → numbered j g ≡ false → In g (edge_fields t j) → ⊥
edge-only t j g n = by (counted t j)
  where
    by : (c : Bool) → In g (cond c (tokensOf j ∷ []) []) → ⊥
    by true m = other_field j g (tokensOf j) n (eq-eqb j j refl) (in_one m)
    by false m = in-none m

module _ (t b : List ℕ) (p q j : ℕ) (lp : p ≤ length b) (lq : q ≤ length b) where
  edge_here : (a m : Marking) → Taken t (edge_fields t j) a (drop p b) m (drop q b) → (x : ℕ) → First b p q x → EdgeRead t m j x
  unfolding written
  edge_here a m w x f = record {
    count = λ c.
        let h : drop p b ≡ m.tokens j ∷ drop q b = rw c at w.stand.parts in
        let n = field-length b p q (m.tokens j ∷ []) h lp lq in
        f.0 (omega arith) ∙ (drop_head b (drop q b) p (m.tokens j) h).1;
    bare = λ c. let h : drop p b ≡ drop q b = rw c at w.stand.parts in f.1 (omega (arith, field-length b p q [] h lp lq));
  }

edge-still : (t : List ℕ) (j k v : ℕ) (a m : Marking) (c d : List ℕ) → eqb k j ≡ false → Taken t (edge_fields t j) a c m d → EdgeRead t a k v → EdgeRead t m k v
edge-still t j k v a m c d n w h =
    let s : a.tokens k ≡ m.tokens k = w.kept (tokensOf k) (edge-only t j (tokensOf k) n) in
    record { count = λ o. rw s at (h.count o); bare = h.bare }

-- the first j edges are read, and taken up
abbrev pub EdgesSoFar : List ℕ → List ℕ → Marking → ℕ → List ℕ → ℕ → ℕ → Type 0
EdgesSoFar t b a o tokens p j = SoFar t b (edge_fields t) (λ m k. EdgeRead t m k (at tokens k)) a o p j

pub edge-step : (t b tokens : List ℕ) (p q j x : ℕ) → Bytes b → j < length tokens → p ≤ length b → q ≤ length b → First b p q x
    → (a : Marking) (o : ℕ) → EdgesSoFar t b a o tokens p j → ((m : Marking) → Reads (Some q) (fields_read t (edge_fields t j) m (drop p b)) b)
    → EdgesSoFar t b a o (set tokens j x) q (j + 1)
edge-step t b tokens p q j x u l lp lq f a o =
    run_step a o (edge-once t j) u
    (λ a m w. rw (get_or-set_same tokens j x 0 l) (edge_here t b p q j lp lq a m w x f))
    (λ k a m n w h.
    let d : k ≡ j → ⊥ = eqb-false k j n in
    rw (get_or-set_other tokens j k x 0 d) (edge-still t j k (at tokens k) a m (drop p b) (drop q b) n w h))

and-true_right : (b : Bool) → b && true ≡ b
and-true_right true = refl
and-true_right false = refl

one_of : (r : Bool) (x : ℕ) → x ≡ one_if r → x ≡ 1 → r ≡ true
one_of true x e h = refl
one_of false x e h = absurd (omega arith)

zero_of : (r : Bool) (x : ℕ) → x ≡ one_if r → (x ≡ 1 → ⊥) → r ≡ false
zero_of true x e h = absurd (h e)
zero_of false x e h = refl

-- ---- pins, and an ended marking
module _ (t : List ℕ) (m : Marking) where
  pub no_pin : (p : ℕ) → is_input (kind t p) ≡ false → pin_fine t m p ≡ true
  unfolding pin_fine
  no_pin p h = rw h

  module _ (p : ℕ) (i : is_input (kind t p) ≡ true) where
    -- no stock exceeds upper, so lower is all to ask for
    pub pin_runs : (x : ℕ) → x ≡ one_if (m.runs (owner t p)) → x ≡ 1 → length (m.stock p) ≤ upper t p → pin_fine t m p ≡ leb (lower t p) (length (m.stock p))
    unfolding pin_fine
    pin_runs x e h u =
        rw (i, one_of (m.runs (owner t p)) x e h, le-leb (length (m.stock p)) (upper t p) u) (and-true_right (leb (lower t p) (length (m.stock p))))

    pub pin_idle : (x : ℕ) → x ≡ one_if (m.runs (owner t p)) → (x ≡ 1 → ⊥) → pin_fine t m p ≡ eqb (length (m.stock p)) 0
    unfolding pin_fine
    pin_idle x e h = rw (i, zero_of (m.runs (owner t p)) x e h)

    -- a pin's action is one
    pub pin_owner : NodeFields t limits p → (owner t p < nodes t) × (is_action (kind t (owner t p)) ≡ true)
    pin_owner f =
        let r = and-true (ltb (owner t p) (nodes t)) _ (rw (pins i) at f.owner-fine) in
        (ltb-true _ _ r.0, r.1)
      where
        pins : is_input (kind t p) ≡ true → is_pin (kind t p) ≡ true
        pins h = rw h

  -- a node with a field is clear where its byte is 0, unless it is an outgoing parameter
  pub outgoing_clear : (i : ℕ) → kind t i ≡ 7 → node_clear t m i ≡ true
  unfolding cleared
  outgoing_clear i e =
      let o : is_object_node (kind t i) ≡ true = ap is_object_node e in
      let g : is_outgoing (kind t i) ≡ true = ap is_outgoing e in
      rw (o, g)

  not-running : (r : Bool) → not r && true ≡ eqb (one_if r) 0
  not-running true = refl
  not-running false = refl

  pub node-clear-is : (b : List ℕ) (i f v : ℕ) → (kind t i ≡ 7 → ⊥) → NodeRead t m b i f v → node_clear t m i ≡ eqb v 0
  unfolding cleared
  node-clear-is b i f v n h = by (is_object_node (kind t i)) refl (is_action (kind t i)) refl
    where
      by : (o : Bool) → is_object_node (kind t i) ≡ o → (r : Bool) → is_action (kind t i) ≡ r → node_clear t m i ≡ eqb v 0
      by true o r e = rw (o, ne_eqb (kind t i) 7 n, (h.stock o).many) (and-true_right _)
      by false o true r = rw (o, r, h.runs r) (not-running (m.runs i))
      by false o false r = rw (o, r, h.bare o r)

  pub edge-clear-is : (j v : ℕ) → EdgeRead t m j v → edge_clear t m j ≡ eqb v 0
  unfolding cleared
  edge-clear-is j v h = by (counted t j) refl
    where
      by : (c : Bool) → counted t j ≡ c → edge_clear t m j ≡ eqb v 0
      by true c = rw (c, h.count c) (and-true_right _)
      by false c = rw (c, h.bare c)

-- ---- the head
cond-none : {A : Type 0} (c : Bool) → ◌≡◌ {A = Maybe A} (cond c none none) none
cond-none true = refl
cond-none false = refl

pub framed_if : (b : List ℕ) (n : ℕ) → n ≡ at b 0 * 256 + at b 1 → n + 2 ≡ length b → framed b ≡ true
framed_if b n e h = eq-eqb (at b 0 * 256 + at b 1 + 2) (length b) (omega arith)

pub unframed_if : (b : List ℕ) (n : ℕ) → n ≡ at b 0 * 256 + at b 1 → (n + 2 ≡ length b → ⊥) → framed b ≡ false
unframed_if b n e h = ne_eqb (at b 0 * 256 + at b 1 + 2) (length b) (λ k. h (omega arith))

-- what is left of reading once the head is fine
abbrev pub judged : List ℕ → Maybe (Marking × List ℕ) → Maybe Marking
judged t none = none
judged t (some x) = whole (cond (marking_fine t x.0) (done x.0) fail x.1)

module _ (t : List ℕ) where
  pub short_none : (b : List ℕ) → length b < 4 → marking t b ≡ none
  unfolding marking marking_read
  short_none [] l = cond-none (framed [])
  short_none (x ∷ []) l = cond-none (framed (x ∷ []))
  short_none (x ∷ (y ∷ [])) l = cond-none (framed (x ∷ y ∷ []))
  short_none (x ∷ (y ∷ (v ∷ []))) l = cond-none (framed (x ∷ y ∷ v ∷ []))
  short_none (x ∷ (y ∷ (v ∷ (s ∷ c)))) l = absurd (omega arith)

  pub unframed_none : (b : List ℕ) → framed b ≡ false → marking t b ≡ none
  unfolding marking
  unframed_none b e = rw e

  version-out : (v : ℕ) → eqb v 1 ≡ false → (o : Maybe (Marking × List ℕ)) → whole (go_on o (λ m. cond (eqb v 1 && marking_fine t m) (done m) fail)) ≡ none
  version-out v e none = refl
  version-out v e (some x) = rw e

  pub version-none : (b : List ℕ) → 4 ≤ length b → (at b 2 ≡ 1 → ⊥) → marking t b ≡ none
  unfolding marking marking_read
  version-none [] l n = absurd (omega arith)
  version-none (x ∷ []) l n = absurd (omega arith)
  version-none (x ∷ (y ∷ [])) l n = absurd (omega arith)
  version-none (x ∷ (y ∷ (v ∷ []))) l n = absurd (omega arith)
  version-none (x ∷ (y ∷ (v ∷ (s ∷ c)))) l n = by (leb s 1)
    where
      by : (d : Bool) → cond (framed (x ∷ y ∷ v ∷ s ∷ c)) (whole (go_on (cond d (done s) fail c) (λ s. fields_read t (layout t) (blank (eqb s 1)) >>= (λ m. cond (eqb v 1 && marking_fine t m) (done m) fail)))) none ≡ none
      by true = rw (version-out v (ne_eqb v 1 n) (fields_read t (layout t) (blank (eqb s 1)) c)) (cond-none (framed (x ∷ y ∷ v ∷ s ∷ c)))
      by false = cond-none (framed (x ∷ y ∷ v ∷ s ∷ c))

  pub state-none : (b : List ℕ) → 4 ≤ length b → 1 < at b 3 → marking t b ≡ none
  unfolding marking marking_read
  state-none [] l n = absurd (omega arith)
  state-none (x ∷ []) l n = absurd (omega arith)
  state-none (x ∷ (y ∷ [])) l n = absurd (omega arith)
  state-none (x ∷ (y ∷ (v ∷ []))) l n = absurd (omega arith)
  state-none (x ∷ (y ∷ (v ∷ (s ∷ c)))) l n = rw (lt-leb s 1 n) (cond-none (framed (x ∷ y ∷ v ∷ s ∷ c)))

  then_judged : (o : Maybe (Marking × List ℕ)) → whole (go_on o (λ m. cond (eqb 1 1 && marking_fine t m) (done m) fail)) ≡ judged t o
  then_judged none = refl
  then_judged (some x) = refl

  pub head_reads : (b : List ℕ) → Head b → marking t b ≡ judged t (fields_read t (layout t) (blank (eqb (at b 3) 1)) (drop 4 b))
  unfolding marking marking_read
  head_reads [] h = absurd (omega (arith, h.long))
  head_reads (x ∷ []) h = absurd (omega (arith, h.long))
  head_reads (x ∷ (y ∷ [])) h = absurd (omega (arith, h.long))
  head_reads (x ∷ (y ∷ (v ∷ []))) h = absurd (omega (arith, h.long))
  head_reads (x ∷ (y ∷ (v ∷ (s ∷ c)))) h = rw (h.in_frame, le-leb s 1 h.state, h.version-one) (then_judged (fields_read t (layout t) (blank (eqb s 1)) c))

-- ---- the layout as nodes' fields and then edges'
counts-are : (t : List ℕ) (js : List ℕ) → each tokensOf (keep (counted t) js) ≡ gather (edge_fields t) js
counts-are t [] = refl
counts-are t (j ∷ js) = by (counted t j) (counts-are t js)
  where
    by : (c : Bool) → each tokensOf (keep (counted t) js) ≡ gather (edge_fields t) js
        → each tokensOf (cond c (j ∷ keep (counted t) js) (keep (counted t) js)) ≡ cond c (tokensOf j ∷ []) [] ++ gather (edge_fields t) js
    by true h = ap (λ (l : List Field). tokensOf j ∷ l) h
    by false h = h

when_ended : (p e n d : Bool) → p ≡ true → e ≡ true → p && (e ⇒ n && d) ≡ n && d
when_ended p e n d h k = rw (h, k)

module _ (t : List ℕ) where
  pub layout_is : layout t ≡ gather (node_fields t) (below (nodes t)) ++ gather (edge_fields t) (below (edges t))
  unfolding layout
  layout_is = ap (λ (l : List Field). gather (node_fields t) (below (nodes t)) ++ l) (counts-are t (below (edges t)))

  module _ (m : Marking) where
    pub fine-is : marking_fine t m ≡ all (pin_fine t m) (below (nodes t)) && (m.ended ⇒ all (node_clear t m) (below (nodes t)) && all (edge_clear t m) (below (edges t)))
    unfolding marking_fine
    fine-is =
        let e : all (cleared t m) (layout t) ≡ all (node_clear t m) (below (nodes t)) && all (edge_clear t m) (below (edges t)) =
        ap (all (cleared t m)) layout_is ∙ all_append (cleared t m) (gather (node_fields t) (below (nodes t))) (gather (edge_fields t) (below (edges t)))
        ∙ ap₂ (λ (a b : Bool). a && b) (all-gather (cleared t m) (node_fields t) (below (nodes t))) (all-gather (cleared t m) (edge_fields t) (below (edges t))) in
        rw e

    pub pins_not : all (pin_fine t m) (below (nodes t)) ≡ false → marking_fine t m ≡ false
    pins_not h = fine-is ∙ rw h

    pub live-fine : all (pin_fine t m) (below (nodes t)) ≡ true → m.ended ≡ false → marking_fine t m ≡ true
    live-fine h e = fine-is ∙ rw (h, e)

    module _ (h : all (pin_fine t m) (below (nodes t)) ≡ true) (e : m.ended ≡ true) where
      pub nodes-not : all (node_clear t m) (below (nodes t)) ≡ false → marking_fine t m ≡ false
      nodes-not n = fine-is ∙ when_ended (all (pin_fine t m) (below (nodes t))) m.ended (all (node_clear t m) (below (nodes t))) (all (edge_clear t m) (below (edges t))) h e ∙ rw n

      pub edges_say : all (node_clear t m) (below (nodes t)) ≡ true → marking_fine t m ≡ all (edge_clear t m) (below (edges t))
      edges_say n = fine-is ∙ when_ended (all (pin_fine t m) (below (nodes t))) m.ended (all (node_clear t m) (below (nodes t))) (all (edge_clear t m) (below (edges t))) h e ∙ rw n

  -- counts change nothing but counts
  edges-keep : (js : List ℕ) (a : Marking) (b : List ℕ) (m : Marking) (rest : List ℕ) → fields_read t (gather (edge_fields t) js) a b ≡ some (m, rest) → (a.stock ≡ m.stock) × (a.runs ≡ m.runs) × (a.ended ≡ m.ended)
  unfolding field_read
  edges-keep [] a b m rest h = let e = (same_read h).0 in (ap (λ (x : Marking). x.stock) e, ap (λ (x : Marking). x.runs) e, ap (λ (x : Marking). x.ended) e)
  edges-keep (j ∷ js) a b m rest h = by (counted t j) b h (edges-keep js)
    where
      by : (c : Bool) (b : List ℕ) → fields_read t (cond c (tokensOf j ∷ []) [] ++ gather (edge_fields t) js) a b ≡ some (m, rest)
          → ((a : Marking) (b : List ℕ) (m : Marking) (rest : List ℕ) → fields_read t (gather (edge_fields t) js) a b ≡ some (m, rest) → (a.stock ≡ m.stock) × (a.runs ≡ m.runs) × (a.ended ≡ m.ended))
          → (a.stock ≡ m.stock) × (a.runs ≡ m.runs) × (a.ended ≡ m.ended)
      by true [] h k = never_some h
      by true (x ∷ b) h k = k (record { ended = a.ended; stock = a.stock; runs = a.runs; tokens = λ e. cond (eqb e j) x (a.tokens e) }) b m rest h
      by false b h k = k a b m rest h

  pub nodes-still : {b from kept : List ℕ} {n : ℕ} (js : List ℕ) (a : Marking) (c : List ℕ) (m : Marking) (rest : List ℕ)
      → fields_read t (gather (edge_fields t) js) a c ≡ some (m, rest) → NodesRead t a b from kept n → NodesRead t m b from kept n
  nodes-still js a c m rest h k =
      let e = edges-keep js a c m rest h in
      record {
        node = λ i l. let z = k.node i l in
            let s : a.stock i ≡ m.stock i = ap (λ (f : ℕ → List ℕ). f i) e.0 in
            record {
              stock = λ o. rw s at (z.stock o);
              room = λ o. rw s at (z.room o);
              runs = λ o. rw (ap (λ (f : ℕ → Bool). f i) e.1) at (z.runs o);
              bare = z.bare;
            };
      }

  -- and no field changes the state
  fields_state : (fs : List Field) (a : Marking) (b : List ℕ) (m : Marking) (rest : List ℕ) → fields_read t fs a b ≡ some (m, rest) → a.ended ≡ m.ended
  fields_state [] a b m rest h = ap (λ (x : Marking). x.ended) (same_read h).0
  fields_state (f ∷ fs) a b m rest h =
      let g = went_on (field_read t a f b) (fields_read t fs) (m, rest) h in
      let k = went_on (content_read t f b) (λ x. done (put f x a)) g.0 (sym (field_reads t a f b) ∙ g.1) in
      let e : put f k.0.0 a ≡ g.0.0 = (same_read k.2).0 in
      sym (put_ended f k.0.0 a) ∙ ap (λ (x : Marking). x.ended) e ∙ fields_state fs g.0.0 g.0.1 m rest g.2

  -- ---- the whole reading, from its two runs
  module _ (b : List ℕ) (h : Head b) where
    abbrev state : Bool
    state = eqb (at b 3) 1

    abbrev node_part : List Field
    node_part = gather (node_fields t) (below (nodes t))

    abbrev edge_part : List Field
    edge_part = gather (edge_fields t) (below (edges t))

    pub nodes-none : fields_read t node_part (blank state) (drop 4 b) ≡ none → marking t b ≡ none
    nodes-none n = head_reads t b h ∙ rw (layout_is, fields_append t node_part, n)

    module _ (a : Marking) (p : ℕ) (r : fields_read t node_part (blank state) (drop 4 b) ≡ some (a, drop p b)) where
      pub edges_none : fields_read t edge_part a (drop p b) ≡ none → marking t b ≡ none
      edges_none n = head_reads t b h ∙ rw (layout_is, fields_append t node_part, r, n)

      module _ (m : Marking) (q : ℕ) (s : fields_read t edge_part a (drop p b) ≡ some (m, drop q b)) where
        judged_is : marking t b ≡ whole (cond (marking_fine t m) (done m) fail (drop q b))
        judged_is = head_reads t b h ∙ rw (layout_is, fields_append t node_part, r, s)

        pub left-none : (q ≡ length b → ⊥) → q ≤ length b → marking t b ≡ none
        left-none n l = judged_is ∙ by (marking_fine t m)
          where
            by : (c : Bool) → whole (cond c (done m) fail (drop q b)) ≡ none
            by true = rw (ne_eqb (length (drop q b)) 0 (λ e. n (omega (arith, length-drop q b))))
            by false = refl

        pub walked : {from kept tokens : List ℕ} → q ≡ length b → NodesRead t a b from kept (nodes t) → EdgesRead t m tokens (edges t) → Walked t b from kept tokens
        walked e n k = record {
          m = m;
          read = judged_is ∙ by (marking_fine t m);
          state = sym (fields_state node_part (blank state) (drop 4 b) a (drop p b) r ∙ fields_state edge_part a (drop p b) m (drop q b) s);
          nodes-read = nodes-still (below (edges t)) a (drop p b) m (drop q b) s n;
          edges-read = k;
        }
          where
            by : (c : Bool) → whole (cond c (done m) fail (drop q b)) ≡ cond c (some m) none
            by true = rw (eq-eqb (length (drop q b)) 0 (omega (arith, length-drop q b)))
            by false = refl

module _ {t b from kept tokens : List ℕ} where
  pub walk_by : (c : Bool) → (c ≡ true → Walked t b from kept tokens) → (c ≡ false → marking t b ≡ none) → Walk t b from kept tokens c
  walk_by true f g = f refl
  walk_by false f g = g refl
