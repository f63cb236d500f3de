-- What follows from what a call answered.
use Rattle.std.proofs.Common.{◌≡◌, true, Result, Ok, Err, sym}
use Rattle.std.specs.Prelude.{IfErr, OnOk, is_ok}
use Rattle.std.proofs.lemmas.Bool.{true≢false}

pub if_err : {T E : Type 0} {P Q : E → Type 0} (r : Result T E) → ((e : E) → P e → Q e) → IfErr r P → IfErr r Q
if_err (Ok x) f p = tt
if_err (Err e) f p = f e p

-- what holds where it was Ok, and where it was not
pub either : {T E : Type 0} {P Q : Type 0} {R : E → Type 0} (r : Result T E) → (P → Q) → ((e : E) → R e → Q) → OnOk r P → IfErr r R → Q
either (Ok x) f h p q = f p
either (Err e) f h p q = h e q

pub where_ok : {T E : Type 0} {P : Type 0} (r : Result T E) → is_ok r ≡ true → OnOk r P → P
where_ok (Ok x) is p = p
where_ok (Err e) is p = absurd (true≢false (sym is))
