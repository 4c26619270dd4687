-- "Offers", with wishes 1, 2 and 5: offers, makers, competing, ends in order, rows 7, 18 and 8. Assumes nothing.
use Prim.Native.Nat.{ℕ, zero, suc, ◌+◌, ◌*◌, ◌-◌, compare, Ordering}
use Rattle.std.specs.Prelude.{Bool, true, false, not, ◌&&◌, ◌||◌, cond, List, [], ◌∷◌, ◌++◌, leb, ltb, eqb, length}
use Rattle.std.proofs.Math.Option.{Option, none, some}
use Rattle.paper.specs.Lists.{at, below, all, any, keep, gather, each, within, ◌⇒◌}
use Rattle.paper.specs.Limits.{limits}
use Rattle.paper.specs.Bytes.{framed, word_at}
use Rattle.paper.specs.Table.{edges, kind, owner, source, target, guarded, is_object, into, is_decision, is_join, is_control_node, is_pin, is_object_node}
use Rattle.paper.specs.Marking.{Marking, counted}

-- An offer, as the tree of what made it. `first e v`: a first offer on edge e with value v. `over o e`: o extended over edge e.
-- `with o p`: o and p taken together at a join, where `over (with ..) e` is the offer; `with` by itself is none.
pub data Offer : Type 0 where
  first : ℕ → Option ℕ → Offer
  over : Offer → ℕ → Offer
  with : Offer → Offer → Offer

-- the offers taken together
unfoldable pub parts : Offer → List Offer
parts (first e v) = first e v ∷ []
parts (over o e) = over o e ∷ []
parts (with o p) = parts o ++ parts p

unfoldable pub last_edge : Offer → ℕ
last_edge (first e v) = e
last_edge (over o e) = e
last_edge (with o p) = 0

abbrev pub or_else : Option ℕ → Option ℕ → Option ℕ
or_else none w = w
or_else (some v) w = some v

-- "a value (none on control edges)"; at a join "The value is that of the object edge's offer.": of those taken together no other has one, so it is the
-- first that is found (`Values.value-of_object_edge`)
unfoldable pub value : Offer → Option ℕ
value (first e v) = v
value (over o e) = value o
value (with o p) = or_else (value o) (value p)

-- whether there is one
abbrev pub is_some : Option ℕ → Bool
is_some none = false
is_some (some v) = true

-- "a set of paths"
unfoldable pub paths : Offer → List (List ℕ)
paths (first e v) = (e ∷ []) ∷ []
paths (over o e) = each (λ p. p ++ (e ∷ [])) (paths o)
paths (with o p) = paths o ++ paths p

-- ---- whether two offers are the same
abbrev pub same_value : Option ℕ → Option ℕ → Bool
same_value none none = true
same_value none (some w) = false
same_value (some v) none = false
same_value (some v) (some w) = eqb v w

unfoldable pub same : Offer → Offer → Bool
same (first e v) (first f w) = eqb e f && same_value v w
same (first e v) (over p f) = false
same (first e v) (with p q) = false
same (over o e) (first f w) = false
same (over o e) (over p f) = eqb e f && same o p
same (over o e) (with p q) = false
same (with o p) (first f w) = false
same (with o p) (over q f) = false
same (with o p) (with q r) = same o q && same p r

unfoldable pub elem : Offer → List Offer → Bool
elem o os = any (same o) os

-- ---- "Makers of an offer: itself and all it was extended or joined from, back to the start."
unfoldable pub makers : Offer → List Offer
makers (first e v) = first e v ∷ []
makers (over o e) = over o e ∷ makers o
makers (with o p) = makers o ++ makers p

abbrev pub is_first : Offer → Bool
is_first (first e v) = true
is_first (over o e) = false
is_first (with o p) = false

-- what an offer was extended or joined from, one step back
unfoldable pub origins : Offer → List Offer
origins (first e v) = []
origins (over o e) = parts o
origins (with o p) = []

abbrev pub share : List Offer → List Offer → Bool
share os ps = any (λ o. elem o ps) os

-- the offers of one list are all those of the other
abbrev pub all_the_same : List Offer → List Offer → Bool
all_the_same os ps = all (λ o. elem o ps) os && all (λ p. elem p os) ps

-- of what an offer was joined from: its object offers, which have a value, and its control offers, which have none
unfoldable pub object_offers : Offer → List Offer
object_offers o = keep (λ p. is_some (value p)) (origins o)

unfoldable pub control_offers : Offer → List Offer
control_offers o = keep (λ p. not (is_some (value p))) (origins o)

-- wish 2: "their object offers differ and their control offers are all the same"
unfoldable pub one_round : Offer → Offer → Bool
one_round o p = not (all_the_same (object_offers o) (object_offers p)) && all_the_same (control_offers o) (control_offers p)

-- ---- "Guards come as e bytes, 0 or 1; an unguarded edge must have 1." (row 7)
unfoldable pub guards_fine : List ℕ → List ℕ → Bool
guards_fine t g =
    eqb (length g) (edges t)
    && all (λ j. leb (at g j) 1 && (eqb (guarded t j) 0 ⇒ eqb (at g j) 1)) (below (edges t))

-- ---- wish 1: "a bounds list: length, version 1, a count, then per entry an edge, a low and a high unsigned value of 4 bytes"
module _ (x : List ℕ) where
  -- offsets: the one place that knows them
  unfoldable pub bounds_version : ℕ
  bounds_version = at x 2

  unfoldable pub bounds_count : ℕ
  bounds_count = at x 3

  abbrev pub bound_at : ℕ → ℕ
  bound_at k = 4 + 9 * k

  unfoldable pub bound_edge : ℕ → ℕ
  bound_edge k = at x (bound_at k)

  unfoldable pub low : ℕ → ℕ
  low k = word_at x (bound_at k + 1)

  unfoldable pub high : ℕ → ℕ
  high k = word_at x (bound_at k + 5)

  -- an entry of a table's list: "edges rising, guarded or not", "Control edges may not be listed.", "(also low above high)"
  unfoldable pub bound_fine : List ℕ → ℕ → Bool
  bound_fine t k =
      ltb (bound_edge k) (edges t) && is_object t (bound_edge k) && leb (low k) (high k)
      && (eqb k 0 || ltb (bound_edge (k - 1)) (bound_edge k))

  -- whether a value "lies in the bounds", of those that are listed for edge e; what has no value isn't asked
  unfoldable pub in_bounds : ℕ → Option ℕ → Bool
  in_bounds e none = true
  in_bounds e (some v) = all (λ k. eqb (bound_edge k) e ⇒ within (low k) (high k) v) (below bounds_count)

-- row 18: "bad bounds list"
unfoldable pub bounds_fine : List ℕ → List ℕ → Bool
bounds_fine t x =
    framed x && eqb (bounds_version x) 1 && eqb (length x) (bound_at x (bounds_count x))
    && all (bound_fine x t) (below (bounds_count x))

-- the list with "count 0"
abbrev pub no_bounds : List ℕ
no_bounds = 0 ∷ 2 ∷ 1 ∷ 0 ∷ []

-- ---- what a call says of the edges of its table
pub record Terms : Type 0 where
  pub guards : List ℕ
  pub bounds : List ℕ

abbrev pub terms : List ℕ → List ℕ → Terms
terms g x = record { guards = g; bounds = x }

-- whether an offer with value v goes over edge e: "No offer goes over an edge whose byte is 0.", and "An offer with a value goes over a listed edge exactly
-- if its byte is 1 and its value lies in the bounds."
unfoldable pub goes_over : Terms → ℕ → Option ℕ → Bool
goes_over w e v = eqb (at w.guards e) 1 && in_bounds w.bounds e v

module _ (t : List ℕ) where
  -- the node where an offer was made
  abbrev pub made_at : Offer → ℕ
  made_at o = source t (last_edge o)

  -- "(a) first offers of the same object node"
  unfoldable pub of_one_stock : Offer → Offer → Bool
  of_one_stock o p = is_first o && is_first p && eqb (made_at o) (made_at p) && is_object_node (kind t (made_at o))

  -- "(b) extensions of the same offer at the same decision"
  unfoldable pub of_one_decision : Offer → Offer → Bool
  of_one_decision o p = eqb (made_at o) (made_at p) && is_decision (kind t (made_at o)) && share (origins o) (origins p)

  -- "(c) offers of the same join that have one of their joined offers in common"; but two of one round "don't compete by (c)"
  unfoldable pub of_one_join : Offer → Offer → Bool
  of_one_join o p = eqb (made_at o) (made_at p) && is_join (kind t (made_at o)) && share (origins o) (origins p) && not (one_round o p)

  unfoldable pub clash : Offer → Offer → Bool
  clash o p = of_one_stock o p || of_one_decision o p || of_one_join o p

  -- "Two offers compete if a maker of one and a different maker of the other are (a) .. (b) .. or (c) .."
  unfoldable pub compete : Offer → Offer → Bool
  compete o p = any (λ a. any (λ b. not (same a b) && clash a b) (makers p)) (makers o)

  -- ---- the offers on an edge
  -- "First offers: a control edge with a count above 0 carries one offer, however many tokens it holds. Each outgoing edge of a non-empty object node carries
  -- one, with the oldest value."
  abbrev oldest : ℕ → List ℕ → List Offer
  oldest e [] = []
  oldest e (v ∷ vs) = first e (some v) ∷ []

  unfoldable pub firsts : Marking → ℕ → List Offer
  firsts m e =
      cond (counted t e) (cond (leb 1 (m.tokens e)) (first e none ∷ []) [])
      (cond (is_object_node (kind t (source t e))) (oldest e (m.stock (source t e))) [])

  -- "for each way of taking one offer from every incoming edge, no two competing"
  unfoldable pub ways : List (List Offer) → List Offer
  ways [] = []
  ways (os ∷ []) = os
  ways (os ∷ (ps ∷ pss)) = gather (λ o. each (with o) (keep (λ p. not (any (compete o) (parts p))) (ways (ps ∷ pss)))) os

  -- what edge e's source hands on to it, where `on j` are the offers on edge j: joined at a join; "Decision, merge, fork: each incoming offer is
  -- extended over each outgoing edge"; elsewhere a first offer
  unfoldable pub handed : Marking → (ℕ → List Offer) → ℕ → List Offer
  handed m on e =
      cond (is_control_node (kind t (source t e)))
      (each (λ o. over o e)
      (cond (is_join (kind t (source t e))) (ways (each on (into t (source t e)))) (gather on (into t (source t e)))))
      (firsts m e)

  -- the offers on edge e whose paths have at most n edges; `goes e v` says whether an offer with value v goes over edge e
  unfoldable pub offers_on : (ℕ → Option ℕ → Bool) → Marking → ℕ → ℕ → List Offer
  offers_on goes m zero e = []
  offers_on goes m (suc n) e = keep (λ o. goes e (value o)) (handed m (offers_on goes m n) e)

  unfoldable pub offers : (ℕ → Option ℕ → Bool) → Marking → List Offer
  offers goes m = gather (offers_on goes m limits.longest_path) (below (edges t))

  -- ---- ends
  -- "An end is an offer on an edge whose target is no control node."
  unfoldable pub is_end : Offer → Bool
  is_end o = not (is_control_node (kind t (target t (last_edge o))))

  abbrev pub target_of : Offer → ℕ
  target_of o = target t (last_edge o)

  -- "It belongs to that target and, for a pin, to its action too."
  unfoldable pub belongs : ℕ → Offer → Bool
  belongs n o = eqb (target_of o) n || (is_pin (kind t (target_of o)) && eqb (owner t (target_of o)) n)

-- ---- "Order of ends: by last edge number; then by their paths, sorted and compared edge by edge, path by path, a shorter list first where it
-- begins the longer one."; but wish 5: "Ends are to be ordered by target node first, then as before."
abbrev pub then_by : Ordering → Ordering → Ordering
then_by Ordering.lt o = Ordering.lt
then_by Ordering.eq o = o
then_by Ordering.gt o = Ordering.gt

module _ {A : Type 0} (cmp : A → A → Ordering) where
  -- entry by entry, a shorter list first where it begins the longer one
  abbrev pub lex : List A → List A → Ordering
  lex [] [] = Ordering.eq
  lex [] (y ∷ ys) = Ordering.lt
  lex (x ∷ xs) [] = Ordering.gt
  lex (x ∷ xs) (y ∷ ys) = then_by (cmp x y) (lex xs ys)

  abbrev not_after : Ordering → Bool
  not_after Ordering.lt = true
  not_after Ordering.eq = true
  not_after Ordering.gt = false

  abbrev pub insert : A → List A → List A
  insert x [] = x ∷ []
  insert x (y ∷ ys) = cond (not_after (cmp x y)) (x ∷ y ∷ ys) (y ∷ insert x ys)

  abbrev pub sort : List A → List A
  sort [] = []
  sort (x ∷ xs) = insert x (sort xs)

unfoldable pub sorted_paths : Offer → List (List ℕ)
sorted_paths o = sort (lex compare) (paths o)

module _ (t : List ℕ) where
  unfoldable pub end_order : Offer → Offer → Ordering
  end_order o p =
      then_by (compare (target_of t o) (target_of t p))
      (then_by (compare (last_edge o) (last_edge p)) (lex (lex compare) (sorted_paths o) (sorted_paths p)))

  -- "They are numbered from 0": by their place in this list
  unfoldable pub ends : List Offer → List Offer
  ends os = sort end_order (keep (is_end t) os)

  -- "Sizes: at most 64 offers, 8 paths in an offer, 20 ends." (row 8)
  unfoldable pub sizes_fine : List Offer → Bool
  sizes_fine os =
      leb (length os) limits.most_offers && all (λ o. leb (length (paths o)) limits.most_paths) os
      && leb (length (ends os)) limits.most_ends
