-- What holds of every form.
use Rattle.std.specs.Prelude.{◌≡◌, ℕ, Bool, true, false, List, IfErr}
use Rattle.form_input.specs.declared.fault.FormFault.{FormFault}
use Rattle.form_input.specs.declared.fault.FormFault.TheVariants.{NoMemory}
use Rattle.form_input.specs.Forms.{form_of}

-- a fault that is no cause of the form's
abbrev pub is_form_out_of_memory : FormFault → Bool
is_form_out_of_memory NoMemory = true
is_form_out_of_memory _ = false

-- what a form is refused for is never out of memory
abbrev pub FormsAreRefusedForCauses : Type 0
FormsAreRefusedForCauses = (kind body : List ℕ) → IfErr (form_of kind body) (λ fault. is_form_out_of_memory fault ≡ false)
