-- What holds of a `Result`.
use Rattle.std.proofs.Common.{Err, Ok, Result, sym}
use Rattle.std.specs.Prelude.{IfOk, IsOk, OnErr, OnOk}
use Rattle.std.proofs.lemmas.Bool.{true≢false}

pub OnErr-from : {T E P : Type 0} (r : Result T E) → P → OnErr r P
OnErr-from (Ok x) p = tt
OnErr-from (Err e) p = p

pub OnOk-from : {T E : Type 0} {P : Type 0} (r : Result T E) → P → OnOk r P
OnOk-from (Ok x) p = p
OnOk-from (Err e) p = tt

pub OnOk-at_ok : {A E P : Type 0} (r : Result A E) → IsOk r → OnOk r P → P
OnOk-at_ok (Ok x) ok p = p
OnOk-at_ok (Err e) ok p = absurd (true≢false (sym ok))

pub IfOk-then : {T E : Type 0} {P Q : T → Type 0} (r : Result T E) → ((x : T) → P x → Q x) → IfOk r P → IfOk r Q
IfOk-then (Ok x) f p = f x p
IfOk-then (Err e) f p = tt
