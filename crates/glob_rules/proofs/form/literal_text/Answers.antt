use Rattle.std.proofs.Common.{◌≡◌, ◌++◌, ◌∷◌, [], ◌∙◌, sym, ap, arith, string_bytes, subst, suc, IsUtf8, List, take, drop}
use Rattle.std.specs.Prelude.{encode_utf8}
use Rattle.std.proofs.Math.Seq.{split_at}
use Rattle.std.proofs.lemmas.List.{take_more}
use Rattle.std.proofs.lemmas.Str.{IsUtf8-string_bytes}
use Rattle.glob_rules.specs.declared.piece.GlobPiece.{GlobPiece}
use Rattle.glob_rules.specs.declared.piece.GlobPiece.TheVariants.{Literal}
use Rattle.glob_rules.specs.Forms.{literals}
use Rattle.glob_rules.proofs.FormLemmas.{no_literals, no_text, one_more}
use Rattle.glob_rules.proofs.form.literal_text.Goals as goal

pub loop-piece-init : goal.loop-piece-init
loop-piece-init c = no_text (string_bytes c.new-text.result) c.new-text.ensures.bytes

pub loop-piece-preserved : goal.loop-piece-preserved
loop-piece-preserved c =
    let pushed : string_bytes c.push.new.self ≡ string_bytes c.loop-piece.text ++ encode_utf8 c.in-Literal.c = c.in_ok-push.ensures.bytes in
    let whole = subst IsUtf8 pushed (IsUtf8-string_bytes c.push.new.self) in
    take_more c.args.pieces.now c.loop-piece.piece-index c.piece-item.result (omega arith)
    ∙ ap (λ (p : GlobPiece). take c.loop-piece.piece-index c.args.pieces.now ++ p ∷ []) (sym c.piece-item.is ∙ c.in-Literal.is)
    ∙ ap (λ (l : List GlobPiece). l ++ Literal c.in-Literal.c ∷ []) c.loop-piece.invariant
    ∙ sym (one_more (string_bytes c.loop-piece.text) c.in-Literal.c (IsUtf8-string_bytes c.loop-piece.text) whole)
    ∙ ap literals (sym pushed)

pub returns-in_default : goal.returns-in_default
returns-in_default c =
    let front = take c.loop-piece.piece-index c.args.pieces.now in
    let later = drop (suc c.loop-piece.piece-index) c.args.pieces.now in
    let parts = split_at c.args.pieces.now c.loop-piece.piece-index c.piece-item.result (omega arith) in
    no_literals c.args.pieces.now front later c.piece-item.result
    (parts ∙ ap (λ (p : GlobPiece). front ++ p ∷ later) (sym c.piece-item.is)) c.in_default.not-Literal
