-- Rules over sets of ends, nets of rules, and the sets that pass them. A set of m ends is a number below 2 ^ m; end k is in it if its digit k is 1.
-- Assumes nothing.
use Rattle.std.specs.Prelude.{ℕ, ◌+◌, ◌-◌, ◌*◌, ◌/◌, ◌^◌, Bool, ◌&&◌, List, ◌++◌, leb, length}
use Rattle.paper.specs.Lists.{has, below, all, any, count, each, at, within, ◌⇒◌}
use Rattle.paper.specs.Limits.{limits}
use Rattle.pick_bounds.specs.declared.Wanted.{Wanted}
use Rattle.pick_bounds.specs.declared.Rule.{Rule}

-- end k is in both sets
abbrev pub in_both : ℕ → ℕ → ℕ → Bool
in_both c d k = has c k && has d k

-- of the ends below m, how many are in both sets, and whether one is
unfoldable pub held : ℕ → ℕ → ℕ → ℕ
held m c d = count (in_both c d) (below m)

unfoldable pub meets : ℕ → ℕ → ℕ → Bool
meets m c d = any (in_both c d) (below m)

abbrev pub rule : ℕ → ℕ → ℕ → ℕ → Rule
rule when only lo hi = record { when = when; only = only; lo = lo; hi = hi }

-- a set that meets `when` holds at least lo and at most hi of the ends in `only`
unfoldable pub obeys : ℕ → Rule → ℕ → Bool
obeys m r c = meets m c r.when ⇒ within r.lo r.hi (held m c r.only)

-- the rules, and how many of which ends are wanted (none, if `least` is 0)
pub record Net : Type 0 where
  pub rules : List Rule
  pub wanted : ℕ
  pub least : ℕ

-- the set c of m ends obeys every rule and holds what is wanted
unfoldable pub passes : ℕ → Net → ℕ → Bool
passes m net c = leb net.least (held m c net.wanted) && all (λ r. obeys m r c) net.rules

-- ---- rules of four kinds: i never with one of its rivals; with one of whens, one of these; with one of whens, at least lo of those; at most hi of them
abbrev pub clash_rule : ℕ → ℕ → Rule
clash_rule i rivals = rule (2 ^ i) rivals 0 0

abbrev pub need_rule : ℕ → ℕ → Rule
need_rule whens these = rule whens these 1 32

abbrev pub floor : ℕ → ℕ → ℕ → Rule
floor whens those lo = rule whens those lo 32

abbrev pub cap : ℕ → ℕ → Rule
cap them hi = rule them them 0 hi

-- ---- a net as the code is lent it: the rivals of each of 20 ends, then each rule in four cells side by side
abbrev pub size : List ℕ → ℕ
size net = (length net - limits.most_ends) / 4

abbrev pub rivals_at : List ℕ → ℕ → Rule
rivals_at net k = clash_rule k (at net k)

abbrev pub rule_at : List ℕ → ℕ → Rule
rule_at net i = rule (at net (limits.most_ends + 4 * i)) (at net (limits.most_ends + 4 * i + 1)) (at net (limits.most_ends + 4 * i + 2)) (at net (limits.most_ends + 4 * i + 3))

unfoldable pub net_of : List ℕ → Wanted → Net
net_of net want = record {
  rules = each (rivals_at net) (below limits.most_ends) ++ each (rule_at net) (below (size net));
  wanted = want.ends;
  least = want.least;
}
