use Rattle.std.proofs.Common.{◌≡◌, ℕ, List, Result, Ok, IfOk, IsTrue, codes, refl, subst}
use Rattle.sp_base.specs.declared.path.PathFault.{PathFault}
use Rattle.sp_base.specs.Paths.{mangled_segs, path_of}
use Rattle.cover_rules.specs.Names.{file_name}
use Rattle.docroot_format.specs.Names.{have_names}
use Rattle.docroot_tests.proofs.stamps.folder.Goals as goal

named : (folder : List (List ℕ)) → path_of (codes "/content/jcr:content") ≡ Ok folder → IsTrue (have_names (mangled_segs folder))
unfolding file_name
named folder e = subst (λ (r : Result (List (List ℕ)) PathFault). IfOk r (λ f. IsTrue (have_names (mangled_segs f)))) e refl

pub returns-in-Ok : goal.returns-in-Ok
returns-in-Ok c = named c.in-Ok.folder c.in-Ok.ensures.ok
