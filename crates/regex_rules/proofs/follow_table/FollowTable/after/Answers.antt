use Rattle.std.proofs.Common.{◌≡◌, ◌↔◌, ℕ, List, get_or, subst, arith, rules, w64}
use Rattle.regex_rules.specs.Positions.{Has}
use Rattle.std.proofs.lemmas.Nat.Bits.{bit_at-trailing_zeros}
use Rattle.std.specs.Int.{trailing_zeros}
use Rattle.regex_rules.proofs.KeptLemmas.{lowest_gone, gather, gathered, gather_begins}
use Rattle.regex_rules.proofs.follow_table.FollowTable.after.Goals as goal

pub ends-init : goal.ends-init
ends-init c = gather_begins c.as_slice-sets.result.now c.args.ends

pub ends-smaller : goal.ends-smaller
ends-smaller c =
    let lowest = bit_at-trailing_zeros w64 c.ends.left (omega arith) (search rules) in
    (lowest_gone c.ends.left (trailing_zeros w64 c.ends.left) lowest.0 (search rules) lowest.1).0

pub ends-preserved : goal.ends-preserved
ends-preserved c =
    let lowest = bit_at-trailing_zeros w64 c.ends.left (omega arith) (search rules) in
    let gone = lowest_gone c.ends.left (trailing_zeros w64 c.ends.left) lowest.0 (search rules) lowest.1 in
    gather c.as_slice-sets.result.now c.args.ends c.ends.next c.ends.left _ (trailing_zeros w64 c.ends.left) c.set_at-next.result gone.1 c.set_at-next.ensures c.ends.invariant

pub returns : goal.returns
returns c =
    let same : c.as_slice-sets.result.now ≡ c.args.self.now = search rules in
    subst (λ (l : List ℕ). (p : ℕ) → Has c.ends.next p ↔ ((q : ℕ) × Has c.args.ends q × Has (get_or l q 0) p)) same (gathered c.as_slice-sets.result.now c.args.ends c.ends.next c.ends.left (omega arith) c.ends.invariant)
