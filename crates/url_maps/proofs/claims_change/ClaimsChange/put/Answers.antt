use Rattle.std.proofs.Common.{◌≡◌, Option, Some, None, Bool, true, false, cond, refl, ◌∙◌, ap}
use Rattle.std.specs.Prelude.{option_copied, option_to_list}
use Rattle.std.specs.Map.{lookup}
use Rattle.std.specs.Str.{bytes_eq}
use Rattle.url_maps.specs.Siblings.{or_else}
use Rattle.url_maps.proofs.claims_change.ClaimsChange.put.Goals as goal

put_back : {X : Type 0} (b : Bool) (x y : X) (o : Option X) → x ≡ y → cond b (Some x) (cond b None o) ≡ cond b (Some y) o
put_back true x y o is = ap (λ z. Some z) is
put_back false x y o is = refl

pub returns : goal.returns
returns c = λ t.
    c.in_ok-set.ensures t ∙ ap (cond (bytes_eq c.args.text.now t) (Some c.push_first.new.paths)) (c.take_paths-paths.ensures.rest t)
    ∙ put_back (bytes_eq c.args.text.now t) c.push_first.new.paths _ (lookup (bytes_eq t) c.args.self.now) (c.in_ok-push_first.ensures ∙ ap (λ l. or_else l (option_to_list (option_copied c.args.path))) c.take_paths-paths.ensures.value)
