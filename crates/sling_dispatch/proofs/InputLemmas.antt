-- What was read of the inputs, and what a call that serves says where they have no reading.
use Rattle.std.proofs.Common.{◌≡◌, ◌≢◌, ◌≤◌, inl, inr, ℕ, List, Option, Some, None, IfSome, Ok, Err, false, length, refl, sym, subst}
use Rattle.sp_outside.specs.Files.{Files}
use Rattle.any_config.specs.declared.farm.Farm.{Farm}
use Rattle.content_json.specs.ContentOf.{content as content_of}
use Rattle.content_json.specs.declared.fault.ContentFault.{ContentFault}
use Rattle.content_json.specs.declared.fault.ContentFault.TheVariants.{NoMemory as out_of_memory}
use Rattle.outside_world.specs.Faults.{HasInputCause}
use Rattle.outside_world.specs.InputFiles.{IsAnswerFor, longest_input}
use Rattle.outside_world.specs.declared.inputs.InputFault.{InputFault}
use Rattle.outside_world.specs.declared.inputs.InputFault.TheVariants as input_fault
use Rattle.resource_tree.specs.Content.{Content}
use Rattle.serve_loop.specs.Served.{DiskReport, WorldReport}
use Rattle.sling_dispatch.specs.Endings.{Writing, IsDue}
use Rattle.sling_dispatch.specs.Farms.{farm_in, is_out_of_memory}
use Rattle.sling_dispatch.specs.Forms.{AsksFor}
use Rattle.sling_dispatch.specs.InnerEndings.{IsContentOr, IsFarmOr}
use Rattle.sling_dispatch.specs.InnerServing.{AreReadAs, IsInputOr}
use Rattle.sling_dispatch.specs.Reports.{IsDiskUntouched, IsUntouched, IsWorldUntouched, StreamReport, call_of, report_of}
use Rattle.sling_dispatch.specs.Serving.{HasInputs, HoldsInput, IsUnread, OfInput}
use Rattle.sling_dispatch.specs.declared.farms.FarmRefusal.{FarmRefusal}
use Rattle.sling_dispatch.specs.declared.form.Form.TheVariants.{Serve}
use Rattle.sling_dispatch.specs.declared.form.ServeWords.{ServeWords}
use Rattle.sling_dispatch.proofs.ServingLemmas.{due_input, due_unread_content, due_unread_farm}

-- ---- one input

-- why an input wasn't read
unread : (T : Type 0) (told new : Option Files) (before after : ℕ) (name : List ℕ) (fault : InputFault) → HasInputCause {T = T} before after (Err fault) → IfSome told (λ files. IsAnswerFor files name (Err fault))
    → fault ≢ input_fault.NoMemory → IsUnread (report_of told new before after) fault name
unread T told new before after name input_fault.Failed cause value not = cause
unread T told new before after name input_fault.TooLong cause value not = (cause, value)
unread T told new before after name input_fault.NoMemory cause value not = not refl

-- an input was read
pub was_read : (told : Option Files) (name bytes : List ℕ) → IfSome told (λ files. IsAnswerFor files name (Ok bytes)) → length bytes ≤ longest_input
    → IfSome told (λ held. HoldsInput held name (λ b. b ≡ bytes))
was_read None name bytes value size = tt
was_read (Some files) name bytes value size = (bytes, value, size, refl)

of_told : (told : Option Files) (name : List ℕ) (P Q : List ℕ → Type 0) → ((bytes : List ℕ) → P bytes → Q bytes) → IfSome told (λ held. HoldsInput held name P) → IfSome told (λ held. HoldsInput held name Q)
of_told None name P Q to has = tt
of_told (Some files) name P Q to has = (has.0, has.1, has.2, to has.0 has.3)

-- what holds of an input's bytes holds of the input
pub of_input : (inputs : StreamReport Files) (name bytes : List ℕ) (Q : List ℕ → Type 0) → OfInput inputs name (λ b. b ≡ bytes) → Q bytes → OfInput inputs name Q
of_input inputs name bytes Q has holds = of_told inputs.old name (λ b. b ≡ bytes) Q (λ b e. subst Q (sym e) holds) has

-- ---- an input that wasn't read

pub due_first : (T : Type 0) (asked : List (List ℕ)) (source : StreamReport (List ℕ)) (told new : Option Files) (before after : ℕ) (disk : DiskReport) (world : WorldReport) (words : ServeWords) (fault : InputFault)
    → AsksFor asked (Serve words) → IsUntouched source → new ≡ told → IsDiskUntouched disk → IsWorldUntouched world
    → HasInputCause {T = T} before after (Err fault) → IfSome told (λ files. IsAnswerFor files words.content (Err fault))
    → (w : Writing) → IsInputOr fault words.content w → IsDue (call_of asked source (report_of told new before after) disk world) w
due_first T asked source told new before after disk world words fault asks same contents disk_is world_is cause value =
    due_input (call_of asked source (report_of told new before after) disk world) fault words.content world_is (λ not. record {
      words = words;
      reads = record { asks = asks; source = same; contents = contents; disk = disk_is; world = world_is };
      next = inl refl;
      cause = unread T told new before after words.content fault cause value not;
    })

pub due_second : (T : Type 0) (asked : List (List ℕ)) (source : StreamReport (List ℕ)) (told new : Option Files) (before after : ℕ) (disk : DiskReport) (world : WorldReport) (words : ServeWords) (content : List ℕ) (fault : InputFault)
    → AsksFor asked (Serve words) → IsUntouched source → new ≡ told → IsDiskUntouched disk → IsWorldUntouched world
    → IfSome told (λ held. HoldsInput held words.content (λ b. b ≡ content))
    → HasInputCause {T = T} before after (Err fault) → IfSome told (λ files. IsAnswerFor files words.any (Err fault))
    → (w : Writing) → IsInputOr fault words.any w → IsDue (call_of asked source (report_of told new before after) disk world) w
due_second T asked source told new before after disk world words content fault asks same contents disk_is world_is first cause value =
    due_input (call_of asked source (report_of told new before after) disk world) fault words.any world_is (λ not. record {
      words = words;
      reads = record { asks = asks; source = same; contents = contents; disk = disk_is; world = world_is };
      next = inr (refl, of_told told words.content (λ b. b ≡ content) (λ b. Unit {0}) (λ b e. tt) first);
      cause = unread T told new before after words.any fault cause value not;
    })

-- ---- inputs without a reading

pub due_content_read : (asked : List (List ℕ)) (source : StreamReport (List ℕ)) (inputs : StreamReport Files) (disk : DiskReport) (world : WorldReport) (words : ServeWords) (content any : List ℕ) (fault : ContentFault)
    → AreReadAs asked source inputs words content any → IsDiskUntouched disk → IsWorldUntouched world → (fault ≢ out_of_memory → content_of content ≡ Err fault)
    → (w : Writing) → IsContentOr fault w → IsDue (call_of asked source inputs disk world) w
due_content_read asked source inputs disk world words content any fault read disk_is world_is err =
    due_unread_content (call_of asked source inputs disk world) fault world_is (λ not. record {
      words = words;
      reads = record { asks = read.asks; source = read.source_is; contents = read.inputs_are.0; disk = disk_is; world = world_is };
      not_failed = read.inputs_are.1;
      content = of_input inputs words.content content (λ b. content_of b ≡ Err fault) read.content_is (err not);
      any = of_input inputs words.any any (λ b. Unit {0}) read.any_is tt;
      not_memory = not;
    })

pub due_farm_read : (asked : List (List ℕ)) (source : StreamReport (List ℕ)) (inputs : StreamReport Files) (disk : DiskReport) (world : WorldReport) (words : ServeWords) (content any : List ℕ) (tree : Content) (refusal : FarmRefusal)
    → AreReadAs asked source inputs words content any → content_of content ≡ Ok tree → IsDiskUntouched disk → IsWorldUntouched world → (is_out_of_memory refusal ≡ false → farm_in any ≡ Err refusal)
    → (w : Writing) → IsFarmOr refusal w → IsDue (call_of asked source inputs disk world) w
due_farm_read asked source inputs disk world words content any tree refusal read reads disk_is world_is err =
    due_unread_farm (call_of asked source inputs disk world) refusal world_is (λ not. record {
      words = words;
      reads = record { asks = read.asks; source = read.source_is; contents = read.inputs_are.0; disk = disk_is; world = world_is };
      not_failed = read.inputs_are.1;
      content = of_input inputs words.content content (λ b. (t : Content) × (content_of b ≡ Ok t)) read.content_is (tree, reads);
      any = of_input inputs words.any any (λ b. farm_in b ≡ Err refusal) read.any_is (err not);
      not_memory = not;
    })

-- both have a reading
pub has_inputs : (asked : List (List ℕ)) (source : StreamReport (List ℕ)) (inputs : StreamReport Files) (words : ServeWords) (content any : List ℕ) (tree : Content) (farm : Farm)
    → AreReadAs asked source inputs words content any → content_of content ≡ Ok tree → farm_in any ≡ Ok farm → HasInputs asked source inputs words tree farm
has_inputs asked source inputs words content any tree farm read reads farm_reads = record {
  asks = read.asks;
  source_is = read.source_is;
  inputs_are = read.inputs_are;
  content = of_input inputs words.content content (λ b. content_of b ≡ Ok tree) read.content_is reads;
  any = of_input inputs words.any any (λ b. farm_in b ≡ Ok farm) read.any_is farm_reads;
}
