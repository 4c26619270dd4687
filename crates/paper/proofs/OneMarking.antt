-- A marking has one encoding under its table: it is read back from its bytes, bytes that are read are the encoding of what they say, no stock
-- that is read is over upper, and a marking of a good table fits within 4,096 bytes. Assumes nothing.
use mathlib.Core.Path.{◌≡◌, refl, sym, ap, ap₂, subst, subst₂, ◌∙◌, fun_ext}
use Prim.Native.Nat.{ℕ, suc, ◌+◌, ◌*◌, ◌≤◌, ◌<◌}
use native.Mathlib.Nat.{one-mul}
use native.Mathlib.Omega.{arith}
use mathlib.Core.Bool.{Bool, true, false, ◌&&◌, cond}
use mathlib.Core.Logic.{◌⊎◌, inl, inr, ⊎_elim}
use mathlib.Core.List.{List, [], ◌∷◌, ◌++◌, append_assoc, append-nil}
use mathlib.Core.Option.{some}
use lib.Dec.{ltb, eqb}
use lib.ListN.{length, length-append}
use borrow.Author.Tests.{ltb-true, eqb-true, eq-eqb}
use Rattle.paper.specs.Lists.{at, below, keep, gather, each, one_if}
use Rattle.paper.specs.Answers.{good}
use Rattle.paper.specs.Limits.{Limits, limits_for, limits}
use Rattle.paper.specs.Bytes.{sized, listed, framed, Reader, go_on, ◌>>=◌, done, fail, byte, up_to, values_read, whole}
use Rattle.paper.specs.Table.{nodes, edges, kind, upper, is_action, is_object_node, table_fine}
use Rattle.paper.specs.Marking.{Marking, blank, Field, stockOf, runsOf, tokensOf, written, counted, node_fields, layout, encode, field_read}
use Rattle.paper.specs.Marking.{fields_read, marking_fine, marking_read, marking, has_stock, has_runs, has_tokens, Good}
use Rattle.paper.proofs.Bools.{never, and-true, true_or_false, false_if}
use Rattle.paper.proofs.Members.{In, here, later, in-none, in-cons, in_below, Distinct}
use Rattle.paper.proofs.Lengths.{length-zero, gather_append, gather-gather, gather-each, length-gather, length-gather_most, length_from, length-keep}
use Rattle.paper.proofs.Bounds.{most_if, under_nil, under_cons, under_append, under-gather}
use Rattle.paper.proofs.Bytes.{Bytes, Words, Front, front-on, never_some, same_read, went_on, on-and-on, passed, read-passed, whole_is, byte-is}
use Rattle.paper.proofs.Bytes.{up_to-is, flag_fits, flag_byte, flag_back, flag_is, values_back, values-are, values_most, listed-bytes, sized-bytes}
use Rattle.paper.proofs.Bytes.{framed-sized, sized-framed, length-listed}
use Rattle.paper.proofs.Tables.{table-good, upper_fits}
use Rattle.paper.proofs.Fields.{has_field, in_layout, layout_in, layout-once}

-- ---- a marking, field by field
-- what a field holds: values, whether an action runs, or a count
abbrev pub Content : Field → Type 0
Content (stockOf i) = List ℕ
Content (runsOf i) = Bool
Content (tokensOf j) = ℕ

abbrev pub content : Marking → (f : Field) → Content f
content m (stockOf i) = m.stock i
content m (runsOf i) = m.runs i
content m (tokensOf j) = m.tokens j

-- the marking with one field set
abbrev pub put : (f : Field) → Content f → Marking → Marking
put (stockOf i) x m = record { ended = m.ended; stock = λ n. cond (eqb n i) x (m.stock n); runs = m.runs; tokens = m.tokens }
put (runsOf i) x m = record { ended = m.ended; stock = m.stock; runs = λ n. cond (eqb n i) x (m.runs n); tokens = m.tokens }
put (tokensOf j) x m = record { ended = m.ended; stock = m.stock; runs = m.runs; tokens = λ n. cond (eqb n j) x (m.tokens n) }

pub same_fields : (a m : Marking) → a.ended ≡ m.ended → ((f : Field) → content a f ≡ content m f) → a ≡ m
same_fields a m e h = λ i. record {
  ended = e i;
  stock = fun_ext (λ n. h (stockOf n)) i;
  runs = fun_ext (λ n. h (runsOf n)) i;
  tokens = fun_ext (λ j. h (tokensOf j)) i;
}

pub put_ended : (f : Field) (x : Content f) (m : Marking) → (put f x m).ended ≡ m.ended
put_ended (stockOf i) x m = refl
put_ended (runsOf i) x m = refl
put_ended (tokensOf j) x m = refl

set_same : {A : Type 0} (f : ℕ → A) (i : ℕ) (x : A) → cond (eqb i i) x (f i) ≡ x
set_same f i x = rw (eq-eqb i i refl)

-- the same place, or as it was
set-seen : {A : Type 0} (f : ℕ → A) (i n : ℕ) (x : A) → (n ≡ i) ⊎ (cond (eqb n i) x (f n) ≡ f n)
set-seen f i n x = ⊎_elim (λ e. inl (eqb-true n i e)) (λ e. inr (rw e)) (true_or_false (eqb n i))

pub put_same : (f : Field) (x : Content f) (m : Marking) → content (put f x m) f ≡ x
put_same (stockOf i) x m = set_same m.stock i x
put_same (runsOf i) x m = set_same m.runs i x
put_same (tokensOf j) x m = set_same m.tokens j x

pub put-seen : (f : Field) (x : Content f) (m : Marking) (g : Field) → (g ≡ f) ⊎ (content (put f x m) g ≡ content m g)
put-seen (stockOf i) x m (stockOf n) = ⊎_elim (λ e. inl (ap stockOf e)) (λ e. inr e) (set-seen m.stock i n x)
put-seen (stockOf i) x m (runsOf n) = inr refl
put-seen (stockOf i) x m (tokensOf n) = inr refl
put-seen (runsOf i) x m (stockOf n) = inr refl
put-seen (runsOf i) x m (runsOf n) = ⊎_elim (λ e. inl (ap runsOf e)) (λ e. inr e) (set-seen m.runs i n x)
put-seen (runsOf i) x m (tokensOf n) = inr refl
put-seen (tokensOf i) x m (stockOf n) = inr refl
put-seen (tokensOf i) x m (runsOf n) = inr refl
put-seen (tokensOf i) x m (tokensOf n) = ⊎_elim (λ e. inl (ap tokensOf e)) (λ e. inr e) (set-seen m.tokens i n x)

-- ---- a field's bytes
abbrev pub bytes_of : (f : Field) → Content f → List ℕ
bytes_of (stockOf i) vs = listed vs
bytes_of (runsOf i) r = one_if r ∷ []
bytes_of (tokensOf j) k = k ∷ []

pub written_is : (m : Marking) (f : Field) → written m f ≡ bytes_of f (content m f)
unfolding written
written_is m (stockOf i) = refl
written_is m (runsOf i) = refl
written_is m (tokensOf j) = refl

-- what a field can hold
abbrev pub Fits : List ℕ → (f : Field) → Content f → Type 0
Fits t (stockOf i) vs = (length vs ≤ upper t i) × Words vs
Fits t (runsOf i) r = Unit {0}
Fits t (tokensOf j) k = k < 256

-- from marking a, the bytes b give m and leave a rest: they are m's fields fs, and nothing else of a is changed
pub record Taken (t : List ℕ) (fs : List Field) (a : Marking) (b : List ℕ) (m : Marking) (rest : List ℕ) : Type 0 where
  pub stand : Front b (gather (written m) fs) rest
  pub fit : (f : Field) → In f fs → Fits t f (content m f)
  pub kept : (g : Field) → (In g fs → ⊥) → content a g ≡ content m g
  pub same-state : a.ended ≡ m.ended

module _ (t : List ℕ) where
  -- a field's reader, without the marking that it sets
  unfoldable pub content_read : (f : Field) → Reader (Content f)
  content_read (stockOf i) = values_read (upper t i)
  content_read (runsOf i) = up_to 1 >>= (λ r. done (eqb r 1))
  content_read (tokensOf j) = byte

  pub field_reads : (a : Marking) (f : Field) (b : List ℕ) → field_read t a f b ≡ go_on (content_read f b) (λ x. done (put f x a))
  unfolding field_read content_read
  field_reads a (stockOf i) b = refl
  field_reads a (runsOf i) b = sym (on-and-on (up_to 1 b) (λ r. done (eqb r 1)) (λ x. done (put (runsOf i) x a)))
  field_reads a (tokensOf j) b = refl

  pub content_back : (f : Field) (x : Content f) (rest : List ℕ) → Fits t f x → content_read f (bytes_of f x ++ rest) ≡ some (x, rest)
  unfolding content_read
  content_back (stockOf i) vs rest p = values_back (upper t i) vs rest p.0 p.1
  content_back (runsOf i) r rest p = rw (flag_fits r, flag_back r)
  content_back (tokensOf j) k rest p = refl

  pub content_is : (f : Field) (b : List ℕ) (x : Content f) (rest : List ℕ) → Bytes b → content_read f b ≡ some (x, rest)
      → Front b (bytes_of f x) rest × Fits t f x
  unfolding content_read
  content_is (stockOf i) b vs rest u h = let v = values-are (upper t i) b vs rest u h in (v.stand, (v.many, v.small))
  content_is (runsOf i) b r rest u h =
      let g = went_on (up_to 1 b) (λ r. done (eqb r 1)) (r, rest) h in
      let e = same_read g.2 in
      let n = g.0.0 in
      let p = up_to-is 1 b n g.0.1 u g.1 in
      let q : Front b (one_if (eqb n 1) ∷ []) g.0.1 = rw (flag_is n p.1) p.0 in
      (subst₂ (λ (c : Bool) (l : List ℕ). Front b (one_if c ∷ []) l) e.0 e.1 q, tt)
  content_is (tokensOf j) b k rest u h = byte-is b k rest u h

  pub field_back : (m a : Marking) (f : Field) (rest : List ℕ) → Fits t f (content m f) → field_read t a f (written m f ++ rest) ≡ some (put f (content m f) a, rest)
  field_back m a f rest p = rw (field_reads, written_is m f, content_back f (content m f) rest p)

  -- fields, read from any marking that differs from m at most in them, give m
  pub fields_back : (fs : List Field) (a m : Marking) (rest : List ℕ)
      → ((f : Field) → In f fs → Fits t f (content m f))
      → a.ended ≡ m.ended
      → ((g : Field) → In g fs ⊎ (content a g ≡ content m g))
      → fields_read t fs a (gather (written m) fs ++ rest) ≡ some (m, rest)
  fields_back [] a m rest p e d =
      let h = same_fields a m e (λ g. ⊎_elim (λ i. absurd (in-none i)) (λ q. q) (d g)) in
      ap (λ (x : Marking). some (x, rest)) h
  fields_back (f ∷ fs) a m rest p e d =
      let x = content m f in
      rw (append_assoc (written m f), field_back m a f (gather (written m) fs ++ rest) (p f (here refl)))
      (fields_back fs (put f x a) m rest (λ g i. p g (later i)) (put_ended f x a ∙ e) (λ g. next g (put-seen f x a g) (d g)))
    where
      set : (g : Field) → g ≡ f → content (put f (content m f) a) g ≡ content m g
      set g q = subst (λ (h : Field). content (put f (content m f) a) h ≡ content m h) (sym q) (put_same f (content m f) a)

      next : (g : Field) → (g ≡ f) ⊎ (content (put f (content m f) a) g ≡ content a g)
          → In g (f ∷ fs) ⊎ (content a g ≡ content m g) → In g fs ⊎ (content (put f (content m f) a) g ≡ content m g)
      next g (inl q) k = inr (set g q)
      next g (inr q) (inl i) = ⊎_elim (λ s. inr (set g s)) (λ j. inl j) (in-cons i)
      next g (inr q) (inr s) = inr (q ∙ s)

  -- the first field is read, and then the others
  fields_step : (f : Field) (fs : List Field) (a : Marking) (b : List ℕ) (m : Marking) (rest : List ℕ) → fields_read t (f ∷ fs) a b ≡ some (m, rest)
      → (x : Content f) × (c : List ℕ) × (content_read f b ≡ some (x, c)) × (fields_read t fs (put f x a) c ≡ some (m, rest))
  fields_step f fs a b m rest h =
      let g = went_on (field_read t a f b) (fields_read t fs) (m, rest) h in
      let k = went_on (content_read f b) (λ x. done (put f x a)) g.0 (sym (field_reads a f b) ∙ g.1) in
      let e = same_read k.2 in
      (k.0.0, k.0.1, k.1, ap₂ (fields_read t fs) e.0 e.1 ∙ g.2)

  -- one field more in front
  taken-on : (f : Field) (fs : List Field) (x : Content f) (a : Marking) (b c : List ℕ) (m : Marking) (rest : List ℕ)
      → (In f fs → ⊥) → Front b (bytes_of f x) c → Fits t f x → Taken t fs (put f x a) c m rest → Taken t (f ∷ fs) a b m rest
  taken-on f fs x a b c m rest o s p k =
      let i : x ≡ content m f = sym (put_same f x a) ∙ k.kept f o in
      let w : bytes_of f x ≡ written m f = ap (bytes_of f) i ∙ sym (written_is m f) in
      record {
        stand = front-on (rw w at s) k.stand;
        fit = λ g j. ⊎_elim (λ q. subst (λ (h : Field). Fits t h (content m h)) (sym q) (rw i at p)) (k.fit g) (in-cons j);
        kept = λ g n. ⊎_elim (λ q. absurd (n (here q))) (λ q. sym q ∙ k.kept g (λ j. n (later j))) (put-seen f x a g);
        same-state = sym (put_ended f x a) ∙ k.same-state;
      }

  -- fields that each stand once are what was read, and all else is as it was
  pub fields_are : (fs : List Field) (a : Marking) (b : List ℕ) (m : Marking) (rest : List ℕ) → Distinct fs → Bytes b
      → fields_read t fs a b ≡ some (m, rest) → Taken t fs a b m rest
  fields_are [] a b m rest o u h =
      let e = same_read h in
      subst₂ (Taken t [] a b) e.0 e.1 record { stand = record { parts = refl; left = u }; fit = λ f i. absurd (in-none i); kept = λ g n. refl; same-state = refl }
  fields_are (f ∷ fs) a b m rest o u h =
      let s = fields_step f fs a b m rest h in
      let x = s.0 in
      let c = s.1 in
      let i = content_is f b x c u s.2 in
      taken-on f fs x a b c m rest o.0 i.0 i.1 (fields_are fs (put f x a) c m rest o.1 i.0.left s.3)

  -- ---- a good marking holds in its fields what fits, and nothing elsewhere
  pub good-fits : (m : Marking) → Good t m → (f : Field) → In f (layout t) → Fits t f (content m f)
  good-fits m g (stockOf i) n = (rw (layout_in t (stockOf i) n) at (g.stocks i), g.values i)
  good-fits m g (runsOf i) n = tt
  good-fits m g (tokensOf j) n = let h : m.tokens j ≤ 255 = rw (layout_in t (tokensOf j) n) at (g.counts j) in omega arith

  pub good_elsewhere : (m : Marking) → Good t m → (f : Field) → has_field t f ≡ false → content (blank m.ended) f ≡ content m f
  good_elsewhere m g (stockOf i) n = let h : length (m.stock i) ≤ 0 = rw n at (g.stocks i) in sym (length-zero (m.stock i) (omega arith))
  good_elsewhere m g (runsOf i) n = sym (false_if (m.runs i) (λ h. never (has_runs t i) (g.running i h) n))
  good_elsewhere m g (tokensOf j) n = let h : m.tokens j ≤ 0 = rw n at (g.counts j) in omega arith

  taken-good : (e : Bool) (b : List ℕ) (m : Marking) (rest : List ℕ) → Taken t (layout t) (blank e) b m rest → marking_fine t m ≡ true → Good t m
  taken-good e b m rest k h = record {
    stocks = λ i. most_if (has_stock t i) _ (upper t i) (λ y. (fits (stockOf i) y).0) (λ n. ap length (sym (empty (stockOf i) n)));
    values = λ i. ⊎_elim (λ y. (fits (stockOf i) y).1) (λ n. rw (← empty (stockOf i) n) (λ k. omega arith)) (true_or_false (has_stock t i));
    running = λ i r. ⊎_elim (λ y. y) (λ n. never (m.runs i) r (sym (empty (runsOf i) n))) (true_or_false (has_runs t i));
    counts = λ j. most_if (has_tokens t j) _ 255 (λ y. omega (arith, fits (tokensOf j) y)) (λ n. sym (empty (tokensOf j) n));
    fine = h;
  }
    where
      fits : (f : Field) → has_field t f ≡ true → Fits t f (content m f)
      fits f y = k.fit f (in_layout t f y)

      empty : (f : Field) → has_field t f ≡ false → content (blank e) f ≡ content m f
      empty f n = k.kept f (λ i. never (has_field t f) (layout_in t f i) n)

  good_outside : (m : Marking) → Good t m → (f : Field) → In f (layout t) ⊎ (content (blank m.ended) f ≡ content m f)
  good_outside m g f = ⊎_elim (λ p. inl (in_layout t f p)) (λ n. inr (good_elsewhere m g f n)) (true_or_false (has_field t f))

  -- ---- reading behind the length, which is two bytes of any value
  pub marking_read_back : (x y : ℕ) (m : Marking) (rest : List ℕ) → Good t m
      → marking_read t (x ∷ y ∷ (1 ∷ one_if m.ended ∷ gather (written m) (layout t) ++ rest)) ≡ some (m, rest)
  unfolding marking_read
  marking_read_back x y m rest g =
      let r = fields_back (layout t) (blank m.ended) m rest (good-fits m g) refl (good_outside m g) in
      rw (flag_fits m.ended, flag_back m.ended, r, g.fine)

  -- the reader taken apart, whatever the bytes
  read-parts : (x y v : ℕ) (c : List ℕ) (m : Marking) (rest : List ℕ) → marking_read t (x ∷ y ∷ v ∷ c) ≡ some (m, rest)
      → (s : ℕ) × (d : List ℕ) × (up_to 1 c ≡ some (s, d)) × (fields_read t (layout t) (blank (eqb s 1)) d ≡ some (m, rest)) × (v ≡ 1) × (marking_fine t m ≡ true)
  unfolding marking_read
  read-parts x y v c m rest h =
      let test : Marking → Reader Marking = λ a. cond (eqb v 1 && marking_fine t a) (done a) fail in
      let g = went_on (up_to 1 c) (λ s. fields_read t (layout t) (blank (eqb s 1)) >>= test) (m, rest) h in
      let i = went_on (fields_read t (layout t) (blank (eqb g.0.0 1)) g.0.1) test (m, rest) g.2 in
      let a = i.0.0 in
      let j = read-passed (eqb v 1 && marking_fine t a) (done a) i.0.1 (m, rest) i.2 in
      let q = and-true (eqb v 1) (marking_fine t a) j.0 in
      (g.0.0, g.0.1, g.1, i.1 ∙ j.1, eqb-true v 1 q.0, ap (marking_fine t) (sym (same_read j.1).0) ∙ q.1)

  pub marking_read-is : (x y v : ℕ) (c : List ℕ) (m : Marking) (rest : List ℕ) → Bytes c → marking_read t (x ∷ y ∷ v ∷ c) ≡ some (m, rest)
      → Good t m × (v ≡ 1) × Front c (one_if m.ended ∷ gather (written m) (layout t)) rest
  marking_read-is x y v c m rest u h =
      let r = read-parts x y v c m rest h in
      let s = r.0 in
      let d = r.1 in
      let up = up_to-is 1 c s d u r.2 in
      let k = fields_are (layout t) (blank (eqb s 1)) d m rest (layout-once t) up.0.left r.3 in
      let z : s ≡ one_if m.ended = sym (flag_is s up.1) ∙ ap one_if k.same-state in (
        taken-good (eqb s 1) d m rest k r.5,
        r.4,
        subst (λ (n : ℕ). Front c (n ∷ gather (written m) (layout t)) rest) z (front-on up.0 k.stand),
      )

  -- the bytes as a reader that reads all of them takes them apart: a length, a version, and the rest
  marking-read : (b : List ℕ) (m : Marking) → marking t b ≡ some m
      → (x : ℕ) × (y : ℕ) × (v : ℕ) × (c : List ℕ) × (b ≡ x ∷ y ∷ v ∷ c) × (framed b ≡ true) × (marking_read t (x ∷ y ∷ v ∷ c) ≡ some (m, []))
  unfolding marking marking_read
  marking-read b m h =
      let p = passed (framed b) (whole (marking_read t b)) m h in
      by b p.0 (whole_is (marking_read t b) m p.1)
    where
      by : (b : List ℕ) → framed b ≡ true → marking_read t b ≡ some (m, [])
          → (x : ℕ) × (y : ℕ) × (v : ℕ) × (c : List ℕ) × (b ≡ x ∷ y ∷ v ∷ c) × (framed b ≡ true) × (marking_read t (x ∷ y ∷ v ∷ c) ≡ some (m, []))
      by [] e r = never_some r
      by (x ∷ []) e r = never_some r
      by (x ∷ (y ∷ [])) e r = never_some r
      by (x ∷ (y ∷ (v ∷ c))) e r = (x, y, v, c, refl, e, r)

  -- ---- "A stock never exceeds upper.", whatever the bytes
  abbrev Room : Marking → Type 0
  Room m = (i : ℕ) → length (m.stock i) ≤ upper t i

  field_room : (f : Field) (a : Marking) (b : List ℕ) (x : Content f) (rest : List ℕ) → content_read f b ≡ some (x, rest) → Room a → Room (put f x a)
  unfolding content_read
  field_room (stockOf k) a b vs rest h r i =
      ⊎_elim (λ e. rw (eqb-true i k e, eq-eqb k k refl) (values_most (upper t k) b vs rest h)) (λ e. rw e (r i)) (true_or_false (eqb i k))
  field_room (runsOf k) a b x rest h r i = r i
  field_room (tokensOf k) a b x rest h r i = r i

  fields_room : (fs : List Field) (a : Marking) (b : List ℕ) (m : Marking) (rest : List ℕ) → fields_read t fs a b ≡ some (m, rest) → Room a → Room m
  fields_room [] a b m rest h r = subst Room (same_read h).0 r
  fields_room (f ∷ fs) a b m rest h r =
      let s = fields_step f fs a b m rest h in
      fields_room fs (put f s.0 a) s.1 m rest s.3 (field_room f a b s.0 s.1 s.2 r)

  pub read-room : (b : List ℕ) (m : Marking) → marking t b ≡ some m → (i : ℕ) → length (m.stock i) ≤ upper t i
  read-room b m h =
      let k = marking-read b m h in
      let r = read-parts k.0 k.1 k.2 k.3 m [] k.6 in
      fields_room (layout t) (blank (eqb r.0 1)) r.1 m [] r.3 (λ i. omega arith)

  -- ---- the size
  node-size : (k : ℕ) (m : Marking) (i : ℕ) → length (m.stock i) ≤ k → length (gather (written m) (node_fields t i)) ≤ 1 + 4 * k
  unfolding written
  node-size k m i h = by (is_object_node (kind t i)) (is_action (kind t i))
    where
      by : (o a : Bool) → length (gather (written m) (cond o (stockOf i ∷ []) (cond a (runsOf i ∷ []) []))) ≤ 1 + 4 * k
      by true a = omega (arith, ap length (append-nil (listed (m.stock i))), length-listed (m.stock i), h)
      by false true = omega arith
      by false false = omega arith

  count-size : (m : Marking) (js : List ℕ) → length (gather (written m) (each tokensOf js)) ≡ length js
  unfolding written
  count-size m js = ap length (gather-each (written m) tokensOf js) ∙ length-gather (λ j. written m (tokensOf j)) 1 (λ j. refl) js ∙ one-mul (length js)

  -- a stock of k values takes 1 + 4k bytes
  pub encode-length : (k : ℕ) (m : Marking) → ((i : ℕ) → i < nodes t → length (m.stock i) ≤ k) → length (encode t m) ≤ 4 + (1 + 4 * k) * nodes t + edges t
  unfolding encode layout
  encode-length k m h =
      let ns = below (nodes t) in
      let js = keep (counted t) (below (edges t)) in
      let w : ℕ → List ℕ = λ i. gather (written m) (node_fields t i) in
      let a = ap length (gather-gather (written m) (node_fields t) ns) in
      let b : length (gather w ns) ≤ (1 + 4 * k) * nodes t
      = rw (length_from 0 (nodes t)) at (length-gather_most w (1 + 4 * k) ns (λ i n. node-size k m i (h i (in_below (nodes t) n)))) in
      let c = count-size m js in
      let d = length-keep (counted t) (below (edges t)) in
      let e = ap length (gather_append (written m) (gather (node_fields t) ns) (each tokensOf js)) in
      let f = length-append (gather (written m) (gather (node_fields t) ns)) (gather (written m) (each tokensOf js)) in
      omega (arith, length_from 0 (edges t))

  -- ---- under a good table
  pub stocks-small : (l : Limits) (m : Marking) → table_fine t l ≡ good tt → Good t m → (i : ℕ) → length (m.stock i) ≤ l.most_upper
  stocks-small l m f g i = ⊎_elim held (λ n. let p : length (m.stock i) ≤ 0 = rw n at (g.stocks i) in omega arith) (true_or_false (has_stock t i))
    where
      held : has_stock t i ≡ true → length (m.stock i) ≤ l.most_upper
      held y =
          let p : length (m.stock i) ≤ upper t i = rw y at (g.stocks i) in
          let k : i < nodes t = ltb-true i (nodes t) (and-true (ltb i (nodes t)) _ y).0 in
          omega (arith, upper_fits ((table-good t l f).node i k))

  -- whatever the limits are, they bound a marking's length: 65 bytes a node and a byte an edge behind the first four
  pub encode-within : (n e b : ℕ) (m : Marking) → table_fine t (limits_for n e b) ≡ good tt → Good t m → length (encode t m) ≤ 4 + 65 * n + e
  encode-within n e b m f g =
      let r = (table-good t (limits_for n e b) f).frame in
      omega (arith, r.nodes_fit, r.edges_fit, encode-length 16 m (λ i k. stocks-small (limits_for n e b) m f g i))

  -- "A marking fits within .. bytes."
  pub encode-fits : (m : Marking) → table_fine t limits ≡ good tt → Good t m → length (encode t m) ≤ limits.longest_marking
  encode-fits m f g = omega (arith, encode-within limits.most_nodes limits.most_edges limits.longest_marking m f g)

  written-bytes : (m : Marking) → ((i : ℕ) → length (m.stock i) ≤ 16) → (f : Field) → Fits t f (content m f) → Bytes (written m f)
  unfolding written
  written-bytes m h (stockOf i) p = listed-bytes (m.stock i) (omega (arith, h i))
  written-bytes m h (runsOf i) p = flag_byte (m.runs i)
  written-bytes m h (tokensOf j) p = under_cons 256 (m.tokens j) [] p (under_nil 256 (omega arith))

  pub encode-bytes : (m : Marking) → table_fine t limits ≡ good tt → Good t m → Bytes (encode t m)
  unfolding encode
  encode-bytes m f g =
      let w = gather (written m) (layout t) in
      let u : Bytes w = under-gather 256 (written m) (layout t) (omega arith) (λ x i. written-bytes m (stocks-small limits m f g) x (good-fits m g x i)) in
      sized-bytes (1 ∷ one_if m.ended ∷ w)
      (under_cons 256 1 (one_if m.ended ∷ w) (omega arith) (under_append 256 (one_if m.ended ∷ []) w (flag_byte m.ended) u))

  -- ---- one encoding
  encode-read : (m : Marking) → Good t m → marking_read t (encode t m) ≡ some (m, [])
  unfolding encode
  encode-read m g = rw append-nil at (marking_read_back (at (encode t m) 0) (at (encode t m) 1) m [] g)

  -- the largest length that two bytes give is 65,535
  pub back_if_short : (m : Marking) → Good t m → length (encode t m) ≤ 2 + 65535 → marking t (encode t m) ≡ some m
  unfolding encode marking
  back_if_short m g l = rw (framed-sized (1 ∷ one_if m.ended ∷ gather (written m) (layout t)) (omega arith), encode-read m g)

  pub reads_back : (m : Marking) → table_fine t limits ≡ good tt → Good t m → marking t (encode t m) ≡ some m
  reads_back m f g = back_if_short m g (omega (arith, encode-fits m f g))

  -- whatever the table
  pub read-is-good : (b : List ℕ) (m : Marking) → Bytes b → marking t b ≡ some m → Good t m × (encode t m ≡ b)
  unfolding encode
  read-is-good b m u h =
      let r = marking-read b m h in
      by r.0 r.1 r.2 r.3 r.4 (rw r.4 at u) (rw r.4 at r.5) r.6
    where
      by : (x y v : ℕ) (c : List ℕ) → b ≡ x ∷ y ∷ v ∷ c → Bytes (x ∷ y ∷ v ∷ c) → framed (x ∷ y ∷ v ∷ c) ≡ true
          → marking_read t (x ∷ y ∷ v ∷ c) ≡ some (m, []) → Good t m × (encode t m ≡ b)
      by x y v c s u e r =
          let k = marking_read-is x y v c m [] (λ i. u (suc (suc (suc i)))) r in
          let w = one_if m.ended ∷ gather (written m) (layout t) in
          let q : v ∷ c ≡ 1 ∷ w = ap₂ ◌∷◌ k.1 (k.2.parts ∙ append-nil w) in
          (k.0, ap sized (sym q) ∙ sized-framed x y (v ∷ c) (u 0) (u 1) e ∙ sym s)

  pub one-marking : (a m : Marking) → Good t a → Good t m → encode t a ≡ encode t m → a ≡ m
  one-marking a m g h e = (same_read (sym (encode-read a g) ∙ ap (marking_read t) e ∙ encode-read m h)).0

  -- bytes that read as the same marking are the same
  pub one_encoding : (b c : List ℕ) (m : Marking) → Bytes b → Bytes c → marking t b ≡ some m → marking t c ≡ some m → b ≡ c
  one_encoding b c m u v p q = sym (read-is-good b m u p).1 ∙ (read-is-good c m v q).1
