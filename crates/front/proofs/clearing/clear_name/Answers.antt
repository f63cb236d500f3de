use Rattle.std.proofs.Common.{sym, ◌∙◌}
use Rattle.std.specs.Prelude.{is_ok}
use Rattle.sp_outside.specs.Calls.{Remove}
use Rattle.front.specs.Clearings.{ClearsFiles, is_of_cache}
use Rattle.front.proofs.ClearingLemmas.{clears-none, clears-one, cache_file-call, told-removed}
use Rattle.front.proofs.UseLemmas.{calls-one}
use Rattle.front.proofs.clearing.clear_name.Goals as goal

pub returns-then-is_of_cache-clause-left : goal.returns-then-is_of_cache-clause-left
returns-then-is_of_cache-clause-left g c =
    let name = c.args.name.now in
    let test = is_of_cache c.args.cache_file in
    told-removed c.remove.result (ClearsFiles test) name (g.D.Disk.files c.args.disk.now) (g.D.Disk.files c.remove.new.self) (λ files. clears-none test files)
    (λ files. clears-one test files name (sym c.is_of_cache.ensures ∙ c.if-is_of_cache.true) (c.files_have_names.ensures.removed files name)) c.remove.ensures.ok c.remove.ensures.err

pub returns-then-is_of_cache-clause-calls : goal.returns-then-is_of_cache-clause-calls
returns-then-is_of_cache-clause-calls g c = calls-one _ _ (Remove c.args.name.now (is_ok c.remove.result)) (cache_file-call c.args.cache_file c.args.name.now (is_ok c.remove.result) (sym c.is_of_cache.ensures ∙ c.if-is_of_cache.true)) c.remove.ensures.made
