use Rattle.std.proofs.Common.{◌≡◌, ◌++◌, List, ℕ, sym, ap, ◌∙◌, arith, get_or, length}
use Rattle.std.specs.Prelude.{string_bytes}
use Rattle.std.specs.Char.{to_ascii_lowercase}
use Rattle.post_plan.proofs.NameLemmas.{letter_at, begins_at, goes_on_at, full, ended_at, low_letter}
use Rattle.post_plan.proofs.naming.squeezed.Goals as goal

pub returns-then-as_str-eq-LONGEST_MADE : goal.returns-then-as_str-eq-LONGEST_MADE
returns-then-as_str-eq-LONGEST_MADE c = full c.args.word.now (string_bytes c.loop-rest.name) c.loop-rest.run c.loop-rest.rest.now c.loop-rest.invariant (ap length (sym c.as_str.ensures.value) ∙ c.if-as_str-eq-LONGEST_MADE.true)

pub loop-rest-preserved-in_ok-push : goal.loop-rest-preserved-in_ok-push
loop-rest-preserved-in_ok-push c =
    let is = sym c.is_ascii_alphanumeric.ensures.value ∙ c.if-is_ascii_alphanumeric.true in
    let ch : c.from.result ≡ to_ascii_lowercase (get_or c.loop-rest.rest.now 0 0) = c.from.ensures ∙ c.to_ascii_lowercase.ensures.value in
    let low = low_letter (get_or c.loop-rest.rest.now 0 0) is in
    let bytes = c.in_ok-push.ensures.bytes ∙ ap (λ (t : List ℕ). string_bytes c.loop-rest.name ++ t) (c.in_ok-push.ensures.ascii (rw ch low)) in
    letter_at c.args.word.now (string_bytes c.loop-rest.name) (string_bytes c.push.new.self) c.loop-rest.run c.loop-rest.rest.now c.in-len1-up.len_at_least c.loop-rest.invariant is (λ full. c.if-as_str-eq-LONGEST_MADE.false (ap length c.as_str.ensures.value ∙ full)) (rw ch at bytes)

pub loop-rest-preserved-in_ok-push-2 : goal.loop-rest-preserved-in_ok-push-2
loop-rest-preserved-in_ok-push-2 c =
    let is = sym c.is_ascii_alphanumeric.ensures.value ∙ c.if-is_ascii_alphanumeric.false in
    begins_at c.args.word.now (string_bytes c.loop-rest.name) (string_bytes c.push-then-not-run.new.self) c.loop-rest.run c.loop-rest.rest.now c.in-len1-up.len_at_least c.loop-rest.invariant is c.if-not-run.true (λ full. c.if-as_str-eq-LONGEST_MADE.false (ap length c.as_str.ensures.value ∙ full))
    (c.in_ok-push-2.ensures.bytes ∙ ap (λ (t : List ℕ). string_bytes c.loop-rest.name ++ t) (c.in_ok-push-2.ensures.ascii (omega arith)))

pub loop-rest-preserved : goal.loop-rest-preserved
loop-rest-preserved c =
    let is = sym c.is_ascii_alphanumeric.ensures.value ∙ c.if-is_ascii_alphanumeric.false in
    goes_on_at c.args.word.now (string_bytes c.loop-rest.name) c.loop-rest.run c.loop-rest.rest.now c.in-len1-up.len_at_least c.loop-rest.invariant is c.if-not-run.false

pub returns : goal.returns
returns c = ended_at c.args.word.now (string_bytes c.loop-rest.name) c.loop-rest.run c.loop-rest.rest.now c.in_default.len_below c.loop-rest.invariant
