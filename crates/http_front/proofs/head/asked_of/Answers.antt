use Rattle.std.proofs.Common.{◌∙◌, sym, ap, arith, Some}
use Rattle.std.specs.Prelude.{length, map, option_map}
use Rattle.std.proofs.lemmas.Bool.{lt-ltb, le-ltb}
use Rattle.std.proofs.lemmas.List.{length-map}
use Rattle.sp_base.specs.Fields.{field_at}
use Rattle.http_front.specs.LentHosts.{lent_host}
use Rattle.http_front.specs.LentHeads.{target_by}
use Rattle.http_front.specs.Heads.{asked_with}
use Rattle.http_front.proofs.HeadLemmas.{bad_head, many_headers, bad_target, bad_length, faultless, asked_is}
use Rattle.http_front.proofs.head.asked_of.Goals as goal

pub returns-in_default-clause-err : goal.returns-in_default-clause-err
returns-in_default-clause-err c = λ _. bad_head _ _ _ (sym c.asked_host.ensures.value ∙ ap (option_map lent_host) c.in_default.is)

pub returns-then-fields-gt-MOST_FIELDS-clause-err : goal.returns-then-fields-gt-MOST_FIELDS-clause-err
returns-then-fields-gt-MOST_FIELDS-clause-err c =
    let fields = map (field_at c.args.bytes.now) c.args.fields.now in
    λ _. many_headers _ _ fields _ (sym c.asked_host.ensures.value ∙ ap (option_map lent_host) c.in-Some.is)
    (lt-ltb 100 (length fields) (omega (arith, length-map c.args.fields.now (field_at c.args.bytes.now), c.if-fields-gt-MOST_FIELDS.true)))

pub returns-in-Ok-None-clause-err : goal.returns-in-Ok-None-clause-err
returns-in-Ok-None-clause-err c =
    let fields = map (field_at c.args.bytes.now) c.args.fields.now in
    λ _. bad_target _ _ fields _ (sym c.asked_host.ensures.value ∙ ap (option_map lent_host) c.in-Some.is)
    (le-ltb 100 (length fields) (omega (arith, length-map c.args.fields.now (field_at c.args.bytes.now), c.if-fields-gt-MOST_FIELDS.false)))
    (sym c.in-Ok-None.ensures ∙ ap (option_map target_by) c.in-Ok-None.field-0-is)

pub returns-in-Err-body_length-clause-err : goal.returns-in-Err-body_length-clause-err
returns-in-Err-body_length-clause-err c =
    let fields = map (field_at c.args.bytes.now) c.args.fields.now in
    λ _. bad_length _ _ fields _ _ _ (sym c.asked_host.ensures.value ∙ ap (option_map lent_host) c.in-Some.is)
    (le-ltb 100 (length fields) (omega (arith, length-map c.args.fields.now (field_at c.args.bytes.now), c.if-fields-gt-MOST_FIELDS.false)))
    (sym c.in-Ok-Some.ensures ∙ ap (option_map target_by) c.in-Ok-Some.field-0-is)
    c.in-Err-body_length.ensures

pub returns-clause-faultless : goal.returns-clause-faultless
returns-clause-faultless c =
    let fields = map (field_at c.args.bytes.now) c.args.fields.now in
    faultless _ _ fields _ _ _ (sym c.asked_host.ensures.value ∙ ap (option_map lent_host) c.in-Some.is)
    (le-ltb 100 (length fields) (omega (arith, length-map c.args.fields.now (field_at c.args.bytes.now), c.if-fields-gt-MOST_FIELDS.false)))
    (sym c.in-Ok-Some.ensures ∙ ap (option_map target_by) c.in-Ok-Some.field-0-is)
    c.in-Ok.ensures

pub returns-clause-ok : goal.returns-clause-ok
returns-clause-ok c =
    asked_is _ _ _ _ _ _ (sym c.asked_host.ensures.value ∙ ap (option_map lent_host) c.in-Some.is) (sym c.in-Ok-Some.ensures ∙ ap (option_map target_by) c.in-Ok-Some.field-0-is) c.in-Ok.ensures
    ∙ ap (λ name. Some (asked_with (name, c.in-Some.port) (target_by c.in-Ok-Some.target) c.in-Ok.length)) (sym c.text_of.ensures)
