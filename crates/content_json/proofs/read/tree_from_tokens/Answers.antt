use Rattle.std.proofs.Common.{◌≡◌, Some, None, Ok, true, false, if◌then◌else◌, refl, sym, ap, ◌∙◌, subst}
use Rattle.std.specs.Prelude.{MatchOption}
use Rattle.std.specs.Str.{is_utf8}
use Rattle.std.proofs.lemmas.Str.{is_utf8-from_IsUtf8, IsUtf8-from_is_utf8}
use Rattle.serde_json.specs.Data.{object}
use Rattle.serde_json.specs.Read.{read}
use Rattle.content_json.specs.ContentOf.{json_of, is_too_big, content_in, unless_found}
use Rattle.content_json.specs.Faults.{fault_in}
use Rattle.content_json.specs.Tokens.{IsSoundContent, IsUnsound}
use Rattle.content_json.specs.Steps.{is_sound}
use Rattle.content_json.proofs.MadeLemmas.{neither_of}
use Rattle.content_json.proofs.InOrder.{in_order_read}
use Rattle.content_json.proofs.GoodLemmas.{good_content}
use Rattle.content_json.proofs.read.tree_from_tokens.Goals as goal

pub of-requires : goal.of-requires
of-requires c =
    let found = subst (λ o. MatchOption o (IsUnsound c.in-Ok.text.now) (IsSoundContent c.in-Ok.text.now)) c.in-Some.is c.in_ok-nodes-in-Ok.ensures in
    let bytes = c.args.bytes.now in
    let json : json_of bytes ≡ Some (object found.0) = rw (is_utf8-from_IsUtf8 bytes c.in-Ok.ensures.cases.1) (ap read (sym c.in-Ok.ensures.cases.0) ∙ found.1) in
    let is = neither_of (fault_in (object found.0)) (is_too_big found.0) found.2 in
    rw found.3 (good_content found.0 (in_order_read bytes (object found.0) json) is.0 is.1)

pub returns-in-Some : goal.returns-in-Some
returns-in-Some c =
    let found = subst (λ o. MatchOption o (IsUnsound c.in-Ok.text.now) (IsSoundContent c.in-Ok.text.now)) c.in-Some.is c.in_ok-nodes-in-Ok.ensures in
    let bytes = c.args.bytes.now in
    let json : json_of bytes ≡ Some (object found.0) = rw (is_utf8-from_IsUtf8 bytes c.in-Ok.ensures.cases.1) (ap read (sym c.in-Ok.ensures.cases.0) ∙ found.1) in
    let is = neither_of (fault_in (object found.0)) (is_too_big found.0) found.2 in
    ap content_in json ∙ ap (λ o. unless_found o found.0) is.0 ∙ rw is.1 (ap Ok (sym (c.of.ensures ∙ found.3)))

pub returns-in-None : goal.returns-in-None
returns-in-None c ms is =
    let unsound = subst (λ o. MatchOption o (IsUnsound c.in-Ok.text.now) (IsSoundContent c.in-Ok.text.now)) c.in-None.is c.in_ok-nodes-in-Ok.ensures in
    let bytes = c.args.bytes.now in
    let json : json_of bytes ≡ read bytes = ap (λ b. if b then read bytes else None) (is_utf8-from_IsUtf8 bytes c.in-Ok.ensures.cases.1) in
    unsound ms (ap read c.in-Ok.ensures.cases.0 ∙ sym json ∙ is)

pub returns-in-Err : goal.returns-in-Err
returns-in-Err c ms is =
    let bytes = c.args.bytes.now in
    elim (is_utf8 bytes) as (λ b. is_utf8 bytes ≡ b → (if b then read bytes else None) ≡ Some (object ms) → is_sound ms ≡ false) [ true ↦ λ e _. absurd (c.in-Err.ensures.cases.0 (IsUtf8-from_is_utf8 bytes e)) | false ↦ λ _ never. absurd (cc) ] refl is
