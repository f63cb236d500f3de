use Rattle.std.proofs.Common.{option_map, IfOk, rules, SFits, w64, to_z-of_z, refl, sym, ap, ◌∙◌, subst}
use Rattle.std.specs.Prelude.{MatchOption}
use Rattle.std.proofs.lemmas.Result.{IfOk-weaker}
use Rattle.json.specs.Reads.{token_of}
use Rattle.serde_json.specs.Data.{boolean, number, string}
use Rattle.content_json.specs.Parts.{data_of_long}
use Rattle.content_json.specs.Tokens.{token_data, MixesWith, HasItemMore, Mixes}
use Rattle.content_json.proofs.ListLemmas.{item_made, none_mixes, null_token_mixes, array_token_mixes, object_token_mixes, number_token_mixes}
use Rattle.content_json.proofs.tokens.with_item.Goals as goal

pub returns-in-String : goal.returns-in-String
returns-in-String c =
    IfOk-weaker c.with_text.result _ _ (λ found made. item_made c.args.list (token_of c.args.item) (string c.in-String.text.now) found (ap (λ t. token_data (token_of t)) c.in-String.is) made) c.with_text.ensures

pub returns-in-Some : goal.returns-in-Some
returns-in-Some c =
    let n = c.in-Some.long in
    let fits : SFits w64 n = search rules in
    IfOk-weaker c.with_long.result _ _
    (λ found made. item_made c.args.list (token_of c.args.item) (data_of_long n) found (ap (λ t. token_data (token_of t)) c.in-Number.is ∙ ap (option_map number) c.in-Some.ensures.0) made)
    (subst (λ m. IfOk c.with_long.result (λ found. MatchOption found (MixesWith c.args.list (data_of_long m)) (HasItemMore c.args.list (data_of_long m)))) (to_z-of_z fits) c.with_long.ensures)

pub returns-in-None : goal.returns-in-None
returns-in-None c = subst (Mixes c.args.list) (sym (ap token_of c.in-Number.is)) (number_token_mixes c.args.list c.in-Number.text.now c.requires c.in-None.ensures)

pub returns-in-Bool : goal.returns-in-Bool
returns-in-Bool c =
    IfOk-weaker c.with_truth.result _ _ (λ found made. item_made c.args.list (token_of c.args.item) (boolean c.in-Bool.truth) found (ap (λ t. token_data (token_of t)) c.in-Bool.is) made) c.with_truth.ensures

pub returns-in-BeginObject : goal.returns-in-BeginObject
returns-in-BeginObject c = subst (Mixes c.args.list) (sym (ap token_of c.in-BeginObject.is)) (object_token_mixes c.args.list c.requires)

pub returns-in-EndObject : goal.returns-in-EndObject
returns-in-EndObject c = subst (Mixes c.args.list) (sym (ap token_of c.in-EndObject.is)) (none_mixes c.args.list _ refl)

pub returns-in-BeginArray : goal.returns-in-BeginArray
returns-in-BeginArray c = subst (Mixes c.args.list) (sym (ap token_of c.in-BeginArray.is)) (array_token_mixes c.args.list c.requires)

pub returns-in-EndArray : goal.returns-in-EndArray
returns-in-EndArray c = subst (Mixes c.args.list) (sym (ap token_of c.in-EndArray.is)) (none_mixes c.args.list _ refl)

pub returns-in-Key : goal.returns-in-Key
returns-in-Key c = subst (Mixes c.args.list) (sym (ap token_of c.in-Key.is)) (none_mixes c.args.list _ refl)

pub returns-in-Null : goal.returns-in-Null
returns-in-Null c = subst (Mixes c.args.list) (sym (ap token_of c.in-Null.is)) (null_token_mixes c.args.list c.requires)

pub returns-in-Bad : goal.returns-in-Bad
returns-in-Bad c = subst (Mixes c.args.list) (sym (ap token_of c.in-Bad.is)) (none_mixes c.args.list _ refl)
