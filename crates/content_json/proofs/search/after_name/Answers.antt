use Rattle.std.proofs.Common.{◌≡◌, ◌≤◌, ◌++◌, ◌∷◌, [], ◌∙◌, ap, length, arith, refl}
use Rattle.std.proofs.lemmas.List.{length-take}
use Rattle.sp_base.specs.Paths.{join_of}
use Rattle.content_json.proofs.PathLemmas.{join_of-is}
use Rattle.content_json.proofs.JoinLemmas.{name_and_path, memory_alone}
use Rattle.content_json.proofs.search.after_name.Goals as goal

pub returns-in-Ok : goal.returns-in-Ok
returns-in-Ok c =
    let place = join_of-is c.in_ok-top.top c.in_ok-rest.rest c.in-Ok.made c.in-Ok.ensures.ok in
    rw (place, c.in_ok-top.ensures, c.root.ensures, c.in_ok-rest.ensures) refl

pub out_of_memory-requires : goal.out_of_memory-requires
out_of_memory-requires c =
    let name = c.args.name.now in
    let top = c.in_ok-top.top in
    let rest = c.in_ok-rest.rest in
    let is : top ≡ name ∷ [] = c.in_ok-top.ensures ∙ ap (λ segs. segs ++ name ∷ []) c.root.ensures in
    let few : length rest ≤ 63 = omega (arith, ap length c.in_ok-rest.ensures, length-take 63 c.args.path.now) in
    memory_alone c.in-Err.fault (join_of top rest) (name ∷ rest) (ap (λ t. join_of t rest) is ∙ name_and_path name rest c.requires c.depth.ensures.valid few)
    c.in-Err.ensures.err
