-- Laws of reading value lists at a place. Assumes nothing.
use mathlib.Core.Path.{◌≡◌, refl, sym, ap, ◌∙◌}
use Prim.Native.Nat.{ℕ, suc, ◌+◌, ◌-◌, ◌*◌, ◌/◌, ◌%◌, ◌≤◌, ◌<◌}
use native.Mathlib.Omega.{arith}
use mathlib.Core.Bool.{Bool, true, false, cond}
use mathlib.Core.List.{List, [], ◌∷◌, ◌++◌, append-nil}
use mathlib.Core.Option.{Option as Maybe, none, some}
use lib.Dec.{eqb}
use lib.ListN.{length, drop, set, length-drop}
use lib.Seq.{get_or-set_same, get_or-set_other, get_or-drop}
use borrow.Author.Tests.{eq-eqb, ne_eqb, eqb-true, eqb-false}
use Rattle.paper.specs.Lists.{at, from, below, keep}
use Rattle.paper.specs.Limits.{limits}
use Rattle.paper.specs.Bytes.{Reader, go_on, ◌>>=◌, done, listed, values_read, each_read}
use Rattle.paper.specs.Table.{nodes}
use Rattle.paper.specs.Answers.{refused, good}
use Rattle.paper.specs.Operations.{value_lists, list_for}
use Rattle.paper.proofs.Members.{In, here, later, in_keep-below}
use Rattle.paper.proofs.Lists.{below_more, below_split, keep_append}
use Rattle.paper.proofs.Given.{not_listed}
use Rattle.paper.proofs.Bytes.{Bytes, same_read, went_on, values-are, length-listed}
use Rattle.marking.proofs.Laws.{field-length, stock_noted}
use Rattle.marking.specs.Reading.{Reads}
use Rattle.marking.specs.Values.{is_listed, listed_at, listed_nodes, ValuesNoted, ValuesRead}
use Rattle.std.specs.Prelude.{Some, Result}
use Rattle.wire.specs.declared.Refusal.{Refusal}
use Rattle.wire.specs.Refusals.{said}

-- ---- lists one after another
module _ {A B : Type 0} (r : A → Reader B) where
  each_append : (xs ys : List A) (b : List ℕ) → each_read r (xs ++ ys) b ≡ go_on (each_read r xs b) (λ us. each_read r ys >>= (λ vs. done (us ++ vs)))
  each_append [] ys b = by (each_read r ys b)
    where
      by : (o : Maybe (List B × List ℕ)) → o ≡ go_on o (λ vs. done vs)
      by none = refl
      by (some x) = refl
  each_append (x ∷ xs) ys b = by (r x b) (λ c. each_append xs ys c)
    where
      then : (u : B) (o : Maybe (List B × List ℕ)) → go_on (go_on o (λ us. each_read r ys >>= (λ vs. done (us ++ vs)))) (λ us. done (u ∷ us)) ≡ go_on (go_on o (λ us. done (u ∷ us))) (λ us. each_read r ys >>= (λ vs. done (us ++ vs)))
      then u none = refl
      then u (some o) = last (each_read r ys o.1)
        where
          last : (q : Maybe (List B × List ℕ)) → go_on (go_on q (λ vs. done (o.0 ++ vs))) (λ us. done (u ∷ us)) ≡ go_on q (λ vs. done (u ∷ o.0 ++ vs))
          last none = refl
          last (some y) = refl

      by : (o : Maybe (B × List ℕ)) → ((c : List ℕ) → each_read r (xs ++ ys) c ≡ go_on (each_read r xs c) (λ us. each_read r ys >>= (λ vs. done (us ++ vs))))
          → go_on o (λ u. each_read r (xs ++ ys) >>= (λ us. done (u ∷ us))) ≡ go_on (go_on o (λ u. each_read r xs >>= (λ us. done (u ∷ us)))) (λ us. each_read r ys >>= (λ vs. done (us ++ vs)))
      by none h = refl
      by (some z) h = rw (h z.1) (then z.0 (each_read r xs z.1))

  each-many : (xs : List A) (b : List ℕ) (us : List B) (rest : List ℕ) → each_read r xs b ≡ some (us, rest) → length us ≡ length xs
  each-many [] b us rest h = ap length (sym (same_read h).0)
  each-many (x ∷ xs) b us rest h =
      let f = went_on (r x b) (λ u. each_read r xs >>= (λ us. done (u ∷ us))) (us, rest) h in
      let g = went_on (each_read r xs f.0.1) (λ vs. done (f.0.0 ∷ vs)) (us, rest) f.2 in
      ap length (sym (same_read g.2).0) ∙ ap suc (each-many xs f.0.1 g.0.0 g.0.1 g.1)

-- the list of a node, where one more node is listed behind the others
list-old : (n i : ℕ) (ps : List ℕ) (vss : List (List ℕ)) (vs : List ℕ) → length vss ≡ length ps → eqb n i ≡ false → list_for n (ps ++ (i ∷ [])) (vss ++ (vs ∷ [])) ≡ list_for n ps vss
list-old n i [] [] vs l e = rw e
list-old n i [] (x ∷ vss) vs l e = absurd (omega arith)
list-old n i (p ∷ ps) [] vs l e = absurd (omega arith)
list-old n i (p ∷ ps) (x ∷ vss) vs l e = ap (cond (eqb n p) x) (list-old n i ps vss vs (omega arith) e)

list-new : (i : ℕ) (ps : List ℕ) (vss : List (List ℕ)) (vs : List ℕ) → length vss ≡ length ps → (In i ps → ⊥) → list_for i (ps ++ (i ∷ [])) (vss ++ (vs ∷ [])) ≡ vs
list-new i [] [] vs l e = rw (eq-eqb i i refl)
list-new i [] (x ∷ vss) vs l e = absurd (omega arith)
list-new i (p ∷ ps) [] vs l e = absurd (omega arith)
list-new i (p ∷ ps) (x ∷ vss) vs l e = rw (ne_eqb i p (λ q. e (here q))) (list-new i ps vss vs (omega arith) (λ m. e (later m)))

-- where values that were read stand
noted_values : (b vs : List ℕ) (p q : ℕ) → p ≤ length b → q ≤ length b → length vs ≤ limits.most_upper → drop p b ≡ listed vs ++ drop q b →
    ValuesNoted b vs (q - 4 * ((q - p) / 4)) ((q - p) / 4 % 256)
noted_values b vs p q lp lq few h =
    let e = field-length b p q (listed vs) h lp lq in
    let l = length-listed vs in
    let n : (q - p) / 4 % 256 ≡ length vs = omega arith in
    let w : q - 4 * ((q - p) / 4) ≡ p + 1 = omega arith in
    rw (n, w) (stock_noted b p q vs h)

module _ (t : List ℕ) (k o : ℕ) (b : List ℕ) where
  abbrev so_far : ℕ → List ℕ
  so_far i = keep (is_listed t k o) (below i)

  -- the lists of the nodes below i are read, and the bytes after them start at p
  pub record ListsRead (place more : List ℕ) (p i : ℕ) : Type 0 where
    pub vss : List (List ℕ)
    pub read : each_read (λ n. values_read limits.most_upper) (so_far i) b ≡ some (vss, drop p b)
    pub noted : (j : ℕ) → j < i → ValuesNoted b (list_for j (so_far i) vss) (at place j) (at more j)

  pub lists_begin : (place more : List ℕ) → ListsRead place more 0 0
  lists_begin place more = record { vss = []; read = refl; noted = λ j l. absurd (omega arith) }

  so_far_next : (i : ℕ) → so_far (i + 1) ≡ so_far i ++ listed_at t k o i
  so_far_next i = ap (keep (is_listed t k o)) (below_more i) ∙ keep_append (is_listed t k o) (below i) (i ∷ [])

  not_yet : (i : ℕ) → In i (so_far i) → ⊥
  not_yet i m = omega (arith, (in_keep-below (is_listed t k o) i m).0)

  -- one node more: us is its list, or nothing
  lists-still : (i j : ℕ) (vss us : List (List ℕ)) (c : List ℕ) (d : List ℕ) → length vss ≡ length (so_far i) → eqb j i ≡ false
      → each_read (λ n. values_read limits.most_upper) (listed_at t k o i) c ≡ some (us, d) → list_for j (so_far i ++ listed_at t k o i) (vss ++ us) ≡ list_for j (so_far i) vss
  lists-still i j vss us c d l e h = by (is_listed t k o i) h
    where
      by : (x : Bool) → each_read (λ n. values_read limits.most_upper) (cond x (i ∷ []) []) c ≡ some (us, d) → list_for j (so_far i ++ cond x (i ∷ []) []) (vss ++ us) ≡ list_for j (so_far i) vss
      by true h =
          let f = went_on (values_read limits.most_upper c) (λ v. done (v ∷ [])) (us, d) h in
          rw (← (same_read f.2).0) (list-old j i (so_far i) vss f.0.0 l e)
      by false h = rw (← (same_read h).0, append-nil, append-nil)

  lists_here : (i p q : ℕ) (vss us : List (List ℕ)) → Bytes b → p ≤ length b → q ≤ length b → length vss ≡ length (so_far i)
      → each_read (λ n. values_read limits.most_upper) (listed_at t k o i) (drop p b) ≡ some (us, drop q b)
      → ValuesNoted b (list_for i (so_far i ++ listed_at t k o i) (vss ++ us)) (q - 4 * ((q - p) / 4)) ((q - p) / 4 % 256)
  lists_here i p q vss us u lp lq l h = by (is_listed t k o i) h
    where
      by : (x : Bool) → each_read (λ n. values_read limits.most_upper) (cond x (i ∷ []) []) (drop p b) ≡ some (us, drop q b)
          → ValuesNoted b (list_for i (so_far i ++ cond x (i ∷ []) []) (vss ++ us)) (q - 4 * ((q - p) / 4)) ((q - p) / 4 % 256)
      by true h =
          let f = went_on (values_read limits.most_upper (drop p b)) (λ v. done (v ∷ [])) (us, drop q b) h in
          let s = same_read f.2 in
          let v = values-are limits.most_upper (drop p b) f.0.0 f.0.1 (λ n. rw (get_or-drop p b n 0) (u (p + n))) f.1 in
          rw (← s.0, list-new i (so_far i) vss f.0.0 l (not_yet i)) (noted_values b f.0.0 p q lp lq v.many (v.stand.parts ∙ ap (λ (r : List ℕ). listed f.0.0 ++ r) s.1))
      by false h =
          let s = same_read h in
          let e : p ≡ q = omega (arith, length-drop p b, length-drop q b, ap length s.1) in
          let n : (q - p) / 4 % 256 ≡ 0 = omega arith in
          let w : q - 4 * ((q - p) / 4) ≡ q = omega arith in
          rw (← s.0, append-nil, append-nil, not_listed i (so_far i) vss (not_yet i), n, w) (record { many = refl; stand = refl; inside = omega arith })

  -- a list takes a byte and at most 16 values
  pub list-spans : (i p q : ℕ) → p ≤ length b → Reads (Some q) (each_read (λ n. values_read limits.most_upper) (listed_at t k o i) (drop p b)) b → Bytes b
      → (p ≤ q) × (q ≤ p + 65)
  list-spans i p q l h u = by (is_listed t k o i) h.1
    where
      by : (x : Bool) → each_read (λ n. values_read limits.most_upper) (cond x (i ∷ []) []) (drop p b) ≡ some (h.0, drop q b) → (p ≤ q) × (q ≤ p + 65)
      by true r =
          let f = went_on (values_read limits.most_upper (drop p b)) (λ v. done (v ∷ [])) (h.0, drop q b) r in
          let v = values-are limits.most_upper (drop p b) f.0.0 f.0.1 (λ n. rw (get_or-drop p b n 0) (u (p + n))) f.1 in
          let e = field-length b p q (listed f.0.0) (v.stand.parts ∙ ap (λ (r : List ℕ). listed f.0.0 ++ r) (same_read f.2).1) l h.2 in
          let n = length-listed f.0.0 in
          let m = v.many in
          (omega arith, omega arith)
      by false r = let e = field-length b p q [] (same_read r).1 l h.2 in (omega arith, omega arith)

  pub lists-step : (place more : List ℕ) (p q i : ℕ) → Bytes b → p ≤ length b → i < length place → i < length more → ListsRead place more p i
      → Reads (Some q) (each_read (λ n. values_read limits.most_upper) (listed_at t k o i) (drop p b)) b
      → ListsRead (set place i (q - 4 * ((q - p) / 4))) (set more i ((q - p) / 4 % 256)) q (i + 1)
  lists-step place more p q i u lp la lm s h =
      let many = each-many (λ n. values_read limits.most_upper) (so_far i) b s.vss (drop p b) s.read in
      record {
        vss = s.vss ++ h.0;
        read = rw (so_far_next i, each_append (λ n. values_read limits.most_upper) (so_far i) (listed_at t k o i) b, s.read, h.1);
        noted = λ j l. rw (so_far_next i) (by j (eqb j i) refl l many);
      }
    where
      by : (j : ℕ) (c : Bool) → eqb j i ≡ c → j < i + 1 → length s.vss ≡ length (so_far i)
          → ValuesNoted b (list_for j (so_far i ++ listed_at t k o i) (s.vss ++ h.0)) (at (set place i (q - 4 * ((q - p) / 4))) j) (at (set more i ((q - p) / 4 % 256)) j)
      by j true e l n =
          rw (eqb-true j i e, get_or-set_same place i (q - 4 * ((q - p) / 4)) 0 la, get_or-set_same more i ((q - p) / 4 % 256) 0 lm)
          (lists_here i p q s.vss h.0 u lp h.2 n h.1)
      by j false e l n =
          let d : j ≡ i → ⊥ = eqb-false j i e in
          rw (get_or-set_other place i j (q - 4 * ((q - p) / 4)) 0 d, get_or-set_other more i j ((q - p) / 4 % 256) 0 d, lists-still i j s.vss h.0 (drop p b) (drop q b) n e h.1) (s.noted j (omega arith))

  -- ---- what the walk ends in
  module _ (place more : List ℕ) (r : Result (Unit {0}) Refusal) where
    refused_if : said r ≡ refused 15 0 → value_lists (listed_nodes t k o) b ≡ none → ValuesRead t k o b place more (value_lists (listed_nodes t k o) b) r
    refused_if e n = rw n e

    pub lists_cut : said r ≡ refused 15 0 → (p i : ℕ) → i < nodes t → ListsRead place more p i → each_read (λ n. values_read limits.most_upper) (listed_at t k o i) (drop p b) ≡ none
        → ValuesRead t k o b place more (value_lists (listed_nodes t k o) b) r
    unfolding listed_nodes value_lists
    lists_cut e p i l s h =
        let rest = from (suc i) (nodes t - suc i) in
        let cut : keep (is_listed t k o) (below (nodes t)) ≡ so_far i ++ (listed_at t k o i ++ keep (is_listed t k o) rest) =
        ap (keep (is_listed t k o)) (below_split i (nodes t) l) ∙ keep_append (is_listed t k o) (below i) (i ∷ rest)
        ∙ ap (λ (x : List ℕ). so_far i ++ x) (keep_append (is_listed t k o) (i ∷ []) rest) in
        let none_read : each_read (λ n. values_read limits.most_upper) (keep (is_listed t k o) (below (nodes t))) b ≡ none =
        rw (cut, each_append (λ n. values_read limits.most_upper) (so_far i), s.read, each_append (λ n. values_read limits.most_upper) (listed_at t k o i), h) in
        refused_if e (rw none_read)

    module _ (p : ℕ) (s : ListsRead place more p (nodes t)) where
      pub lists-left : said r ≡ refused 15 0 → p ≤ length b → (p ≡ length b → ⊥) → ValuesRead t k o b place more (value_lists (listed_nodes t k o) b) r
      unfolding listed_nodes value_lists
      lists-left e l n = refused_if e (rw (s.read, ne_eqb (length (drop p b)) 0 (λ z. n (omega (arith, length-drop p b)))))

      pub lists-done : said r ≡ good tt → p ≡ length b → ValuesRead t k o b place more (value_lists (listed_nodes t k o) b) r
      unfolding listed_nodes value_lists
      lists-done e l = rw (s.read, eq-eqb (length (drop p b)) 0 (omega (arith, length-drop p b))) (e, s.noted)
