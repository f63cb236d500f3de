-- Relations of files before and after a call, over calls that follow each other.
use Rattle.std.proofs.Common.{◌≡◌, Option, Some, None, refl, sym, subst}
use Rattle.std.specs.Prelude.{IfErr, IfSome, OnOk, Result, Ok, Err}
use Rattle.sp_outside.specs.Files.{Files}
use Rattle.docroot_changes.specs.Changes.{Told}

abbrev pub Relation : Type 1
Relation = Files → Files → Type 0

pub told_then : (P Q R : Relation) (x y z : Option Files) → ((a b c : Files) → P a b → Q b c → R a c) → Told P x y → Told Q y z → Told R x z
told_then P Q R None y z all p q = subst (λ t. Told Q t z) p q
told_then P Q R (Some a) None z all p q = absurd p
told_then P Q R (Some a) (Some b) None all p q = q
told_then P Q R (Some a) (Some b) (Some c) all p q = all a b c p q

pub told_both : (P Q R : Relation) (x y : Option Files) → ((a b : Files) → P a b → Q a b → R a b) → Told P x y → Told Q x y → Told R x y
told_both P Q R None y all p q = p
told_both P Q R (Some a) None all p q = p
told_both P Q R (Some a) (Some b) all p q = all a b p q

pub told_as : (P Q : Relation) (x y : Option Files) → ((a b : Files) → P a b → Q a b) → Told P x y → Told Q x y
told_as P Q None y all p = p
told_as P Q (Some a) None all p = p
told_as P Q (Some a) (Some b) all p = all a b p

pub told_itself : (P : Relation) (x : Option Files) → ((a : Files) → P a a) → Told P x x
told_itself P None all = refl
told_itself P (Some a) all = all a

pub told_same : (P : Relation) (x y : Option Files) → ((a : Files) → P a a) → y ≡ x → Told P x y
told_same P x y all e = subst (Told P x) (sym e) (told_itself P x all)

-- whatever a call answered
pub either : {T E : Type 0} (r : Result T E) (P R : Type 0) (Q : E → Type 0) → (P → R) → ((e : E) → Q e → R) → OnOk r P → IfErr r Q → R
either (Ok t) P R Q ok err p q = ok p
either (Err e) P R Q ok err p q = err e q

-- what is known of the files before a call
pub told_known : (V : Files → Type 0) (P Q : Relation) (x y : Option Files) → ((a b : Files) → V a → P a b → Q a b) → IfSome x V → Told P x y → Told Q x y
told_known V P Q None y all v p = p
told_known V P Q (Some a) None all v p = p
told_known V P Q (Some a) (Some b) all v p = all a b v p
