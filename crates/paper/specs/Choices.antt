-- "Acceptable choices": the rules, the order of choices, and the step. A choice is a number; end k is taken if its digit k is 1. Assumes nothing.
use Rattle.std.specs.Prelude.{ℕ, ◌+◌, ◌^◌, ◌<◌, ◌≡◌, ◌⊎◌, Bool, true, false, not, ◌&&◌, ◌||◌, cond, List, [], ◌∷◌, ◌++◌, leb, eqb, length, get_or, drop}
use Rattle.std.proofs.Math.Option.{Option, none, some}
use Rattle.paper.specs.Lists.{has, below, all, any, keep, find, count, gather, each, lowest, within, ◌⇒◌}
use Rattle.paper.specs.Answers.{Answer, good, ◌>>=◌, need, known, judged_by, is_good}
use Rattle.paper.specs.Limits.{limits}
use Rattle.paper.specs.Table.{nodes, kind, lower, upper, into, out, inputs, is_control, is_action, is_buffer, is_outgoing, is_object_node, is_fork, is_activity_final, table_fine}
use Rattle.paper.specs.Marking.{Marking, marking, ended_of}
use Rattle.paper.specs.Offers.{Offer, first, last_edge, value, makers, origins, elem, compete, is_first, made_at, target_of, belongs, guards_fine, bounds_fine, Terms, goes_over, offers, ends, sizes_fine}

-- what sheet, pick, why and step are asked about: a table, a marking of it, all offers, and the ends in order
pub record Board : Type 0 where
  pub table : List ℕ
  pub current : Marking
  pub all_offers : List Offer
  pub all_ends : List Offer

-- rows 6 to 8, of a marking and terms; 18 comes "after 7 and before 8"
unfoldable pub board_of : List ℕ → Marking → Terms → Answer Board
board_of t m w = do
  _ ← need 6 (not m.ended)
  _ ← need 7 (guards_fine t w.guards)
  _ ← need 18 (bounds_fine t w.bounds)
  let os = offers t (goes_over w) m
  _ ← need 8 (sizes_fine t os)
  good (record { table = t; current = m; all_offers = os; all_ends = ends t os })

-- rows 1 to 8, of bytes
unfoldable pub board : List ℕ → List ℕ → Terms → Answer Board
board t b w = do
  _ ← table_fine t limits
  m ← known 5 (marking t b)
  board_of t m w

module _ (d : Board) where
  abbrev pub how_many : ℕ
  how_many = length d.all_ends

  abbrev pub end : ℕ → Offer
  end k = get_or d.all_ends k (first 0 none)

module _ (d : Board) (c : ℕ) where
  abbrev t : List ℕ
  t = d.table

  -- the taken ends' numbers, rising; the taken ends in that order; those of them at node n; all makers of taken ends
  unfoldable pub taken : List ℕ
  taken = keep (has c) (below (how_many d))

  unfoldable pub taken_ends : List Offer
  taken_ends = each (end d) taken

  unfoldable pub arrivals : ℕ → List Offer
  arrivals n = keep (λ o. eqb (target_of t o) n) taken_ends

  unfoldable pub taken_makers : List Offer
  taken_makers = gather makers taken_ends

  -- ---- "1. no two of its ends compete": the lowest taken end that competes with a taken one
  unfoldable pub rule1 : Option ℕ
  rule1 = find (λ k. any (λ j. not (eqb j k) && compete t (end d k) (end d j)) taken) taken

  -- ---- "2. forks are passed whole": the lowest fork that isn't
  -- y is an extension of o at node n
  abbrev extends : ℕ → Offer → Offer → Bool
  extends n o y = eqb (made_at t y) n && elem o (origins y)

  -- "where an offer into a fork and one of its extensions there are makers of taken ends, every extension of that offer there is a maker of some
  -- taken end"
  unfoldable pub passed_whole : ℕ → Bool
  passed_whole n =
      all (λ o. any (extends n o) taken_makers ⇒ all (λ y. extends n o y ⇒ elem y taken_makers) d.all_offers) taken_makers

  unfoldable pub rule2 : Option ℕ
  rule2 = lowest (λ n. is_fork (kind t n) && not (passed_whole n)) (nodes t)

  -- ---- "3. each destination agrees": the lowest that doesn't
  -- "An action with any taken end is idle, has exactly one taken end on each incoming control edge, and on each input pin the number of ends taken
  -- lies between lower and upper."
  unfoldable pub action_agrees : ℕ → Bool
  action_agrees n =
      not (d.current.runs n)
      && all (λ e. eqb (count (λ o. eqb (last_edge o) e) taken_ends) 1) (keep (is_control t) (into t n))
      && all (λ p. within (lower t p) (upper t p) (length (arrivals p))) (inputs t n)

  -- "Buffers and outgoing parameters: stock before the step plus ends taken is at most upper. Finals take any number."
  unfoldable pub agrees : ℕ → Bool
  agrees n =
      (is_action (kind t n) && any (belongs t n) taken_ends ⇒ action_agrees n)
      && (is_buffer (kind t n) || is_outgoing (kind t n) ⇒ leb (length (d.current.stock n) + length (arrivals n)) (upper t n))

  unfoldable pub rule3 : Option ℕ
  rule3 = lowest (λ n. not (agrees n)) (nodes t)

  -- ---- "Step: each first offer among the makers of taken ends is spent; an object node loses its oldest value, a control edge goes to 0."
  unfoldable pub spent : ℕ → Bool
  spent e = any (λ o. is_first o && eqb (last_edge o) e) taken_makers

  unfoldable pub spend : Marking → Marking
  spend m = record {
    ended = m.ended;
    runs = m.runs;
    stock = λ n. cond (any spent (out t n)) (drop 1 (m.stock n)) (m.stock n);
    tokens = λ e. cond (spent e) 0 (m.tokens e);
  }

  abbrev value_list : Option ℕ → List ℕ
  value_list none = []
  value_list (some v) = v ∷ []

  -- "Then destinations gain, in end order: values append to pins, buffers and parameters, and actions run. Finals drop what arrives."
  unfoldable pub gain : Marking → Marking
  gain m = record {
    ended = m.ended;
    tokens = m.tokens;
    stock = λ n. m.stock n ++ cond (is_object_node (kind t n)) (gather (λ o. value_list (value o)) (arrivals n)) [];
    runs = λ n. m.runs n || (is_action (kind t n) && any (belongs t n) taken_ends);
  }

  -- "If an end at an activity final is taken, the marking is ended after that: outgoing parameters keep all, the rest is cleared."
  unfoldable pub close : Marking → Marking
  close m = cond (any (λ o. is_activity_final (kind t (target_of t o))) taken_ends) (ended_of t m) m

  unfoldable pub next : Marking
  next = close (gain (spend d.current))

-- the rules with their numbers, in order
abbrev pub rules : Board → List (ℕ × (ℕ → Option ℕ))
rules d = (10, rule1 d) ∷ (11, rule2 d) ∷ (12, rule3 d) ∷ []

unfoldable pub acceptable : Board → ℕ → Bool
acceptable d c = is_good (judged_by (rules d) c)

-- ---- "Of two choices, the one that holds the lowest end held by only one of them comes first."
pub record Before (c x : ℕ) : Type 0 where
  pub lowest-end : ℕ
  pub held : has c lowest-end ≡ true
  pub not-held : has x lowest-end ≡ false
  pub alike : (j : ℕ) → j < lowest-end → has c j ≡ has x j

-- of all sets of m ends that pass, c is the first
pub record FirstOf (passing : ℕ → Bool) (m c : ℕ) : Type 0 where
  pub is_set : c < 2 ^ m
  pub passes : passing c ≡ true
  pub before_others : (x : ℕ) → x < 2 ^ m → passing x ≡ true → (x ≡ c) ⊎ Before c x
