use Rattle.std.proofs.Common.{◌≡◌, ◌∷◌, [], Some, sym, ap, ◌∙◌, subst, arith}
use Rattle.std.proofs.lemmas.Result.{IfOk-weaker}
use Rattle.json.specs.Json.{parse_map}
use Rattle.json.specs.Lex.{tokens}
use Rattle.json.specs.Reads.{token_of}
use Rattle.json.specs.Token.{begin_object}
use Rattle.serde_json.specs.Data.{object}
use Rattle.content_json.specs.Parts.{IsObjectPart}
use Rattle.content_json.specs.Tokens.{value_of_tokens, ReadsObjectIfThere}
use Rattle.content_json.proofs.PassLemmas.{object_in_more, begins_object, unsound_unless_read, unsound_unless_last, unsound_unless_object, unsound_unless_begun}
use Rattle.content_json.proofs.MadeLemmas.{more_left, none_more, text_made}
use Rattle.content_json.proofs.from_tokens.nodes_of_text.Goals as goal

pub returns-in_default : goal.returns-in_default
returns-in_default c =
    let empty : c.in_ok-reader.reader ≡ [] = grind arith in
    unsound_unless_begun c.args.text.now (sym c.in_ok-reader.ensures.ok ∙ empty)

pub returns-then-not-is_begin_object : goal.returns-then-not-is_begin_object
returns-then-not-is_begin_object c =
    let first : c.in_ok-reader.reader ≡ token_of c.in-Some.first ∷ c.next.new.self = grind arith in
    unsound_unless_object c.args.text.now (token_of c.in-Some.first) c.next.new.self (sym c.in_ok-reader.ensures.ok ∙ first) (sym c.is_begin_object.ensures ∙ c.if-not-is_begin_object.true)

pub returns-in_default-2 : goal.returns-in_default-2
returns-in_default-2 c =
    let r = c.next.new.self in
    let first : c.in_ok-reader.reader ≡ token_of c.in-Some.first ∷ r = grind arith in
    let begun = begins_object (token_of c.in-Some.first) (sym c.is_begin_object.ensures ∙ c.if-not-is_begin_object.false) in
    let opened : tokens c.args.text.now ≡ begin_object ∷ r = sym c.in_ok-reader.ensures.ok ∙ first ∙ ap (λ t. t ∷ r) begun in
    let none = subst (ReadsObjectIfThere 64 c.root-root.result r c.read_object.new.reader) c.in_default-2.is c.in_ok-part.ensures.read in
    unsound_unless_read c.args.text.now (ap (value_of_tokens 127) opened ∙ object_in_more 126 r ∙ ap (parse_map object) none)

pub returns-then-is_some : goal.returns-then-is_some
returns-then-is_some c =
    let r = c.next.new.self in
    let rest = c.read_object.new.reader in
    let first : c.in_ok-reader.reader ≡ token_of c.in-Some.first ∷ r = grind arith in
    let begun = begins_object (token_of c.in-Some.first) (sym c.is_begin_object.ensures ∙ c.if-not-is_begin_object.false) in
    let opened : tokens c.args.text.now ≡ begin_object ∷ r = sym c.in_ok-reader.ensures.ok ∙ first ∙ ap (λ t. t ∷ r) begun in
    let made = subst (ReadsObjectIfThere 64 c.root-root.result r rest) c.in-Some-2.is c.in_ok-part.ensures.read in
    let more = more_left c.next-2.result rest c.next-2.new.self c.next-2.ensures.value (sym c.is_some.ensures ∙ c.if-is_some.true) in
    unsound_unless_last c.args.text.now (object made.0) more.0 c.next-2.new.self (ap (value_of_tokens 127) opened ∙ object_in_more 126 r ∙ ap (parse_map object) made.1 ∙ ap (λ ts. Some (object made.0, ts)) more.1)

pub returns : goal.returns
returns c =
    let r = c.next.new.self in
    let rest = c.read_object.new.reader in
    let first : c.in_ok-reader.reader ≡ token_of c.in-Some.first ∷ r = grind arith in
    let begun = begins_object (token_of c.in-Some.first) (sym c.is_begin_object.ensures ∙ c.if-not-is_begin_object.false) in
    let opened : tokens c.args.text.now ≡ begin_object ∷ r = sym c.in_ok-reader.ensures.ok ∙ first ∙ ap (λ t. t ∷ r) begun in
    let made = subst (ReadsObjectIfThere 64 c.root-root.result r rest) c.in-Some-2.is c.in_ok-part.ensures.read in
    let ended = none_more c.next-2.result rest c.next-2.new.self c.next-2.ensures.value (sym c.is_some.ensures ∙ c.if-is_some.false) in
    let top = subst (λ p. IsObjectPart 64 p c.in-Some-2.part made.0) c.root-root.ensures made.2 in
    IfOk-weaker c.nodes_of_part.result _ _
    (λ found each. text_made c.args.text.now made.0 found (ap (value_of_tokens 127) opened ∙ object_in_more 126 r ∙ ap (parse_map object) made.1 ∙ ap (λ ts. Some (object made.0, ts)) ended) (each made.0 top))
    c.nodes_of_part.ensures
