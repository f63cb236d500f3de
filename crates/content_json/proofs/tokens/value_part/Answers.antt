use Rattle.std.proofs.Common.{◌∷◌, refl, sym, ap, ◌∙◌, subst}
use Rattle.std.proofs.lemmas.Bool.{true≢false}
use Rattle.std.proofs.lemmas.Result.{IfOk-weaker}
use Rattle.json.specs.Reads.{token_of}
use Rattle.serde_json.specs.Data.{null, boolean, string}
use Rattle.content_json.specs.Tokens.{value_of_tokens, is_begin_object, ReadsValueIfThere}
use Rattle.content_json.proofs.PassLemmas.{one_value, no_value}
use Rattle.content_json.proofs.ListLemmas.{array_made, number_made}
use Rattle.content_json.proofs.tokens.value_part.Goals as goal

pub returns-in-Null-clause-read : goal.returns-in-Null-clause-read
returns-in-Null-clause-read c = (null, ap (λ k. value_of_tokens c.args.depth (token_of k ∷ c.args.reader.now)) c.in-Null.is ∙ one_value c.args.depth _ c.args.reader.now _ refl, refl)

pub returns-in_ok-of-in-String-clause-read : goal.returns-in_ok-of-in-String-clause-read
returns-in_ok-of-in-String-clause-read c =
    (string c.in-String.text.now, ap (λ k. value_of_tokens c.args.depth (token_of k ∷ c.args.reader.now)) c.in-String.is ∙ one_value c.args.depth _ c.args.reader.now _ refl, (ap string (sym c.in_ok-of-in-String.ensures), refl, refl))

pub returns-in-Bool-clause-read : goal.returns-in-Bool-clause-read
returns-in-Bool-clause-read c =
    (boolean c.in-Bool.truth, ap (λ k. value_of_tokens c.args.depth (token_of k ∷ c.args.reader.now)) c.in-Bool.is ∙ one_value c.args.depth _ c.args.reader.now _ refl, (refl, refl, refl))

pub returns-in-Number-clause-read : goal.returns-in-Number-clause-read
returns-in-Number-clause-read c =
    let ts = c.args.reader.now in
    subst (λ k. ReadsValueIfThere c.args.depth (token_of k ∷ ts) ts c.number_part.result) (sym c.in-Number.is)
    (number_made c.args.depth c.in-Number.text.now ts c.number_part.result c.number_part.ensures)

pub returns-in-BeginArray-clause-read : goal.returns-in-BeginArray-clause-read
returns-in-BeginArray-clause-read c =
    let ts = c.args.reader.now in
    IfOk-weaker c.list.result _ _
    (λ found made. subst (λ k. ReadsValueIfThere c.args.depth (token_of k ∷ ts) c.list.new.reader found) (sym c.in-BeginArray.is)
    (array_made c.args.depth ts c.list.new.reader found c.requires.nests made))
    c.list.ensures.read

pub returns-in-BeginObject-clause-read : goal.returns-in-BeginObject-clause-read
returns-in-BeginObject-clause-read c = absurd (true≢false (ap (λ k. is_begin_object (token_of k)) (sym c.in-BeginObject.is) ∙ c.requires.no_object))

pub returns-in-EndObject-clause-read : goal.returns-in-EndObject-clause-read
returns-in-EndObject-clause-read c = ap (λ k. value_of_tokens c.args.depth (token_of k ∷ c.args.reader.now)) c.in-EndObject.is ∙ no_value c.args.depth _ c.args.reader.now refl

pub returns-in-EndArray-clause-read : goal.returns-in-EndArray-clause-read
returns-in-EndArray-clause-read c = ap (λ k. value_of_tokens c.args.depth (token_of k ∷ c.args.reader.now)) c.in-EndArray.is ∙ no_value c.args.depth _ c.args.reader.now refl

pub returns-in-Key-clause-read : goal.returns-in-Key-clause-read
returns-in-Key-clause-read c = ap (λ k. value_of_tokens c.args.depth (token_of k ∷ c.args.reader.now)) c.in-Key.is ∙ no_value c.args.depth _ c.args.reader.now refl

pub returns-in-Bad-clause-read : goal.returns-in-Bad-clause-read
returns-in-Bad-clause-read c = ap (λ k. value_of_tokens c.args.depth (token_of k ∷ c.args.reader.now)) c.in-Bad.is ∙ no_value c.args.depth _ c.args.reader.now refl
