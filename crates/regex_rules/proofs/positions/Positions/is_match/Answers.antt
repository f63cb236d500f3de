use Rattle.std.proofs.Common.{◌↔◌, ℕ, List, ap, sym, subst}
use Rattle.std.specs.Str.{chars}
use Rattle.std.proofs.lemmas.Str.{IsUtf8-past_char}
use Rattle.regex_rules.specs.declared.linking.Piece.{Piece}
use Rattle.regex_rules.specs.Trees.{tree_of}
use Rattle.regex_rules.specs.Positions.{Has, Takes}
use Rattle.regex_rules.proofs.KeptLemmas.{Kept, nothing_kept, begin_kept, more_kept, none_kept, end_kept, few_of, whole_is, follow_is, takers_are}
use Rattle.regex_rules.proofs.positions.Positions.is_match.Goals as goal

pub returns-in_default : goal.returns-in_default
returns-in_default c =
    nothing_kept (tree_of c.args.places.now) (chars c.args.text.now) c.args.self.now.whole.lacks c.in_default.ensures.value
    (ap (λ (p : Piece). p.lacks) (whole_is c.args.places.now c.requires.places c.args.self.now c.requires.table))

pub loop-c-init : goal.loop-c-init
loop-c-init c =
    let held = c.requires.places in
    let self = c.args.self.now in (
      IsUtf8-past_char c.args.text.now c.in-Some.later.now c.in-Some.first c.utf8.text c.in-Some.ensures.parts,
      begin_kept (tree_of c.args.places.now) (chars c.args.text.now) (chars c.in-Some.later.now) c.in-Some.first self.whole.first c.takers.result
          (few_of c.args.places.now held self c.requires.table)
          (λ p. subst (λ (n : ℕ). Has n p ↔ Takes (tree_of c.args.places.now) 0 p c.in-Some.first) (sym c.takers.ensures) (takers_are c.args.places.now held c.in-Some.first p c.requires.table.few))
          (ap (λ (p : Piece). p.first) (whole_is c.args.places.now held self c.requires.table)) c.in-Some.ensures.value,
    )

pub returns-then-ends-eq0 : goal.returns-then-ends-eq0
returns-then-ends-eq0 c =
    none_kept (tree_of c.args.places.now) (chars c.args.text.now) (chars c.loop-c.rest.now) c.loop-c.ends (few_of c.args.places.now c.requires.places c.args.self.now c.requires.table)
    c.if-ends-eq0.true c.loop-c.invariant.1

pub loop-c-preserved : goal.loop-c-preserved
loop-c-preserved c =
    let held = c.requires.places in
    let self = c.args.self.now in
    let text = chars c.args.text.now in (
      IsUtf8-past_char c.loop-c.rest.now c.in-Some-first_char.later.now c.in-Some-first_char.c c.loop-c.invariant.0 c.in-Some-first_char.ensures.parts,
      more_kept (tree_of c.args.places.now) text (chars c.in-Some-first_char.later.now) c.loop-c.ends c.in-Some-first_char.c c.takers-in-Some-first_char.result c.after.result self.follow
          (few_of c.args.places.now held self c.requires.table)
          (λ p. subst (λ (n : ℕ). Has n p ↔ Takes (tree_of c.args.places.now) 0 p c.in-Some-first_char.c) (sym c.takers-in-Some-first_char.ensures) (takers_are c.args.places.now held c.in-Some-first_char.c p c.requires.table.few))
          (follow_is c.args.places.now held self c.requires.table) c.after.ensures
          (subst (λ (l : List ℕ). Kept (tree_of c.args.places.now) text l c.loop-c.ends) c.in-Some-first_char.ensures.value c.loop-c.invariant.1),
    )

pub returns : goal.returns
returns c =
    let self = c.args.self.now in
    let table = c.requires.table in
    end_kept (tree_of c.args.places.now) (chars c.args.text.now) c.loop-c.ends self.whole.last c.meet.result (few_of c.args.places.now c.requires.places self table)
    (ap (λ (p : Piece). p.last) (whole_is c.args.places.now c.requires.places self table)) c.meet.ensures
    (subst (λ (l : List ℕ). Kept (tree_of c.args.places.now) (chars c.args.text.now) l c.loop-c.ends) c.in_default-first_char.ensures.value c.loop-c.invariant.1)
