-- Where the reading of a filter's entry stops.
use Rattle.std.proofs.Common.{◌≡◌, Bool, true, false, Option, Result, Ok, Err, codes, IsErr, IsErrAnd, ap, sym, subst}
use Rattle.sp_base.specs.Outcomes.{◌>>=◌}
use Rattle.any_config.specs.declared.farm.Filter.{Filter}
use Rattle.any_config.specs.declared.farm.Test.{Test}
use Rattle.any_config.specs.declared.farm_fault.FarmFault.{FarmFault}
use Rattle.any_config.specs.declared.farm_fault.FarmFault.TheVariants.{Missing, BadKind, NotSupported, NoMemory}
use Rattle.any_config.specs.Read.{Members}
use Rattle.any_config.specs.Farms.{FarmOutcome, FarmFails, FarmGives, allow, test_at, filter}

-- a fault of a step is one of what goes on from it
fails_on : {A B : Type 0} (fault : FarmFault) (read : FarmOutcome A) (next : A → FarmOutcome B) → FarmFails fault read → FarmFails fault (read >>= next)
fails_on NoMemory read next f = tt
fails_on (Missing name) read next f = ap (λ (r : FarmOutcome _). r >>= next) f
fails_on (BadKind name) read next f = ap (λ (r : FarmOutcome _). r >>= next) f
fails_on (NotSupported name) read next f = ap (λ (r : FarmOutcome _). r >>= next) f

-- a step that gave something is what goes on from it
goes_on : {A B : Type 0} (fault : FarmFault) (read : FarmOutcome A) (x : A) (next : A → FarmOutcome B) → read ≡ Ok x → FarmFails fault (next x) → FarmFails fault (read >>= next)
goes_on fault read x next e f = subst (λ (r : FarmOutcome _). FarmFails fault (r >>= next)) (sym e) f

pub query_fails : (ms : Members) (fault : FarmFault) (a : Bool) (request_line method url path selectors extension suffix : Option Test) → allow ms ≡ Ok a → test_at (codes "glob") ms ≡ Ok request_line
    → test_at (codes "method") ms ≡ Ok method → test_at (codes "url") ms ≡ Ok url → test_at (codes "path") ms ≡ Ok path → test_at (codes "selectors") ms ≡ Ok selectors
    → test_at (codes "extension") ms ≡ Ok extension → test_at (codes "suffix") ms ≡ Ok suffix → FarmFails fault (test_at (codes "query") ms) → FarmFails fault (filter ms)
unfolding filter
query_fails ms fault a request_line method url path selectors extension suffix e0 e1 e2 e3 e4 e5 e6 e7 f =
    goes_on fault (allow ms) a _ e0 (goes_on fault (test_at (codes "glob") ms) request_line _ e1 (goes_on fault (test_at (codes "method") ms) method _ e2 (goes_on fault (test_at (codes "url") ms) url _ e3
    (goes_on fault (test_at (codes "path") ms) path _ e4 (goes_on fault (test_at (codes "selectors") ms) selectors _ e5 (goes_on fault (test_at (codes "extension") ms) extension _ e6
    (goes_on fault (test_at (codes "suffix") ms) suffix _ e7 (fails_on fault (test_at (codes "query") ms) _ f))))))))

pub gives_fault : (fault : FarmFault) (result : Result Filter FarmFault) (read : FarmOutcome Filter) → result ≡ Err fault → FarmFails fault read → FarmGives (λ (f : Filter). f) result read
gives_fault fault result read e f = subst (λ (r : Result Filter FarmFault). FarmGives (λ (g : Filter). g) r read) (sym e) f

pub is_err : {result : Result Filter FarmFault} {fault : FarmFault} → IsErr result × IsErrAnd result (λ e. e ≡ fault) → result ≡ Err fault
is_err {result = Ok x} s = absurd (no s.0)
  where
    no : false ≡ true → ⊥
    no e = absurd cc
is_err {result = Err e} s = ap (λ (f : FarmFault). Err f) s.1
