use Rattle.std.proofs.Common.{refl}
use Rattle.std.specs.Str.{chars}
use Rattle.std.proofs.lemmas.Str.{IsUtf8-past_char}
use Rattle.regex_rules.proofs.LostLemmas.{begins_with, nothing_matched, none_goes_on}
use Rattle.regex_rules.proofs.matching.is_match.Goals as goal

pub returns-in_default : goal.returns-in_default
returns-in_default c =
    nothing_matched c.args.places.now c.in_ok-sets.sets.olds (chars c.args.text.now) c.take_nothing.result c.requires c.in_ok-sets.ensures c.in_default.ensures.value c.take_nothing.ensures.answer

pub loop-c-init : goal.loop-c-init
loop-c-init c = (
  IsUtf8-past_char c.args.text.now c.in-Some.later.now c.in-Some.first c.utf8.text c.in-Some.ensures.parts,
  begins_with c.args.places.now c.in_ok-sets.sets.olds c.take.new.self.olds c.in_ok-answer.answer (chars c.args.text.now) (chars c.in-Some.later.now) c.in-Some.first c.requires c.in_ok-sets.ensures c.in-Some.ensures.value
      c.in_ok-answer.ensures.marks c.in_ok-answer.ensures.answer,
)

pub returns-then-are_off : goal.returns-then-are_off
returns-then-are_off c =
    none_goes_on c.args.places.now c.loop-c.sets.olds c.loop-c.answer (chars c.args.text.now) (chars c.loop-c.rest.now) (chars c.in-Some-first_char.later.now) c.in-Some-first_char.c c.requires (c.if-are_off.ensures refl) c.loop-c.invariant.1 c.in-Some-first_char.ensures.value
