use Rattle.std.proofs.Common.{◌≡◌, ◌++◌, ◌∷◌, [], false, sym, ap, ◌∙◌, subst, to_z-of_z, rules, SFits, w64}
use Rattle.sp_base.specs.declared.value.Value.TheVariants.{Longs}
use Rattle.content_json.specs.Parts.{data_of_long}
use Rattle.content_json.specs.Tokens.{is_open_list, IsList, HasItemMore}
use Rattle.content_json.proofs.ListLemmas.{more_longs, long_mixes}
use Rattle.content_json.proofs.tokens.with_long.Goals as goal

pub returns-then-not-is_open : goal.returns-then-not-is_open
returns-then-not-is_open c =
    let closed : is_open_list c.args.list ≡ false = (let a = c.is_open.ensures in let b = c.if-not-is_open.true in let e = c.in_default.other-is in cc) in
    long_mixes c.args.list c.args.long c.requires.list closed c.in_default.not-Longs

pub returns-in_ok-push-in-Longs : goal.returns-in_ok-push-in-Longs
returns-in_ok-push-in-Longs c =
    let longs = c.in-Longs.longs in
    let n = c.args.long in
    let fits : SFits w64 n = search rules in
    let grown : c.push.new.self ≡ longs ++ n ∷ [] = c.in_ok-push-in-Longs.ensures.ok ∙ ap (λ x. longs ++ x ∷ []) (to_z-of_z fits) in
    subst (λ l. HasItemMore l (data_of_long n) (Longs c.push.new.self)) (sym c.in-Longs.is)
    (subst (λ xs. HasItemMore (Longs longs) (data_of_long n) (Longs xs)) (sym grown) (more_longs longs n (subst IsList c.in-Longs.is c.requires.list).1 c.requires.fits))
