use Rattle.std.proofs.Common.{◌≡◌, ◌≢◌, ◌<◌, ◌+◌, ◌-◌, [], length, Some, None, true, ◌∙◌, subst, arith, rules}
use Rattle.std.proofs.lemmas.Result.{IfOk-weaker}
use Rattle.json.specs.Json.{read_key, value}
use Rattle.json.proofs.Grammar.{read_key-shorter}
use Rattle.serde_json.specs.Data.{put}
use Rattle.content_json.specs.Parts.{may_stand}
use Rattle.content_json.specs.Tokens.{ReadsPartIfThere}
use Rattle.content_json.proofs.ReadLemmas.{member_read, member_refused, key_refused, members_over}
use Rattle.content_json.proofs.PassLemmas.{none_left}
use Rattle.content_json.proofs.MadeLemmas.{deep_made, kid_made}
use Rattle.content_json.proofs.from_tokens.+from_tokens.Goals as goal

pub read_kid-returns-then-levels-eq0-clause-read : goal.read_kid-returns-then-levels-eq0-clause-read
read_kid-returns-then-levels-eq0-clause-read t c =
    let none : c.args.levels ≡ 0 = omega (arith, c.if-levels-eq0.true) in
    deep_made c.args.levels c.args.path.now c.args.name.now c.args.reader.now c.pass_members.new.reader c.unfit_if.result c.pass_members.result none c.unfit_if.ensures c.pass_members.ensures.passes

pub read_kid-returns-clause-read : goal.read_kid-returns-clause-read
read_kid-returns-clause-read t c =
    let some : c.args.levels ≢ 0 = grind arith in
    let named : may_stand c.args.name.now ≡ true = search rules in
    IfOk-weaker c.read_object.result _ _
    (λ found made. kid_made c.args.levels c.args.path.now c.in_ok-kid.kid c.args.name.now c.args.reader.now c.read_object.new.reader found some named c.in_ok-kid.ensures made)
    c.read_object.ensures.read

pub read_member-returns-in_default-clause-read : goal.read_member-returns-in_default-clause-read
read_member-returns-in_default-clause-read t c =
    let empty : c.args.reader.now ≡ [] = grind arith in
    none_left (c.args.levels + 62) c.args.reader.now empty

pub read_members-returns-in_default-clause-read : goal.read_members-returns-in_default-clause-read
read_members-returns-in_default-clause-read t c =
    let l = c.members in
    let inv = l.invariant in
    inv.3 ∙ key_refused (value (c.args.levels + 62)) inv.1 inv.0 l.reader (grind arith)

pub read_members-returns-in_default-key-clause-read : goal.read_members-returns-in_default-key-clause-read
read_members-returns-in_default-key-clause-read t c =
    let l = c.members in
    let inv = l.invariant in
    let key : read_key l.reader ≡ Some (None, c.next_key.new.self) = grind arith in
    (inv.1, inv.3 ∙ members_over (value (c.args.levels + 62)) inv.1 inv.0 l.reader c.next_key.new.self inv.2 key, inv.5)

pub read_members-returns-in_default-2-clause-read : goal.read_members-returns-in_default-2-clause-read
read_members-returns-in_default-2-clause-read t c =
    let l = c.members in
    let inv = l.invariant in
    let k = c.in-Some.name.now in
    let s = c.next_key.new.self in
    let key : read_key l.reader ≡ Some (Some k, s) = grind arith in
    let none = subst (ReadsPartIfThere c.args.levels c.args.path.now k s c.read_member.new.reader) c.in_default-2.is c.in_ok-part.ensures.read in
    inv.3 ∙ member_refused (value (c.args.levels + 62)) inv.1 inv.0 k l.reader s key none

pub read_members-members-preserved : goal.read_members-members-preserved
read_members-members-preserved t c =
    let l = c.members in
    let inv = l.invariant in
    let n = inv.0 in
    let k = c.in-Some.name.now in
    let s = c.next_key.new.self in
    let r = c.read_member.new.reader in
    let key : read_key l.reader ≡ Some (Some k, s) = grind arith in
    let one = subst (ReadsPartIfThere c.args.levels c.args.path.now k s r) c.in-Some-2.is c.in_ok-part.ensures.read in
    let less = read_key-shorter l.reader (Some k) s key in
    let lesser = c.in_ok-part.ensures.shorter in
    let fewer : length r < length l.reader = omega (arith, less, lesser) in (
      n - 1,
      put k one.0 inv.1,
      omega (arith, inv.2, fewer),
      inv.3 ∙ member_read (value (c.args.levels + 62)) inv.1 n k l.reader s r one.0 (omega (arith, inv.2, fewer)) key one.1,
      omega (arith, inv.4, fewer),
      c.in_ok-put.ensures c.args.levels c.args.path.now one.0 inv.1 one.2 inv.5,
    )
