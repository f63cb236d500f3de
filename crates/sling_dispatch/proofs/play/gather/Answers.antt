use Rattle.std.proofs.Common.{◌≡◌, ◌∙◌, ◌++◌, ◌+◌, length, ap}
use Rattle.std.proofs.lemmas.List.{append-nil}
use Rattle.std.proofs.lemmas.Result.{on_ok_weaker, on_err_weaker}
use Rattle.sp_outside.specs.Told.{held_after}
use Rattle.sling_dispatch.proofs.Writing.{sent_both, sent_prefix}
use Rattle.sling_dispatch.proofs.play.gather.Goals as goal

pub returns-clause-ok : goal.returns-clause-ok
returns-clause-ok g c =
    let old = g.K.Sink.held c.args.sink.now in
    let mid = g.K.Sink.held c.write_all.new.sink in
    let new = g.K.Sink.held c.write_all-2.new.sink in
    let gathered = c.args.gathered.now.items in
    let text = c.args.text.now in
    let first : mid ≡ held_after old gathered =
    c.in_ok-write_all.ensures.ok ∙ ap (held_after old) (c.deref.ensures.value ∙ c.keep.ensures.not_kept c.if-keep.false) in
    on_ok_weaker c.write_all-2.result
    (λ e. (
      gathered ++ text,
      sent_both old mid new gathered text first e,
      ap (λ t. (gathered ++ text) ++ t) c.clear.ensures.items ∙ append-nil (gathered ++ text),
    ))
    c.write_all-2.ensures.ok

pub returns-clause-err : goal.returns-clause-err
returns-clause-err g c =
    let old = g.K.Sink.held c.args.sink.now in
    let mid = g.K.Sink.held c.write_all.new.sink in
    let new = g.K.Sink.held c.write_all-2.new.sink in
    let gathered = c.args.gathered.now.items in
    let text = c.args.text.now in
    let first : mid ≡ held_after old gathered =
    c.in_ok-write_all.ensures.ok ∙ ap (held_after old) (c.deref.ensures.value ∙ c.keep.ensures.not_kept c.if-keep.false) in
    on_err_weaker c.write_all-2.result
    (λ e. (length gathered + e.0, sent_prefix old mid new gathered text e.0 first e.1))
    c.write_all-2.ensures.err
