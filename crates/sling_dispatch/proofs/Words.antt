-- The words of a command line.
use Rattle.std.proofs.Common.{◌≡◌, ◌+◌, ◌++◌, ◌∙◌, ℕ, List, [], ◌∷◌, Option, Some, None, IfSome, take, get_or, slice_get, sym, ap, refl}
use Rattle.std.proofs.lemmas.List.{take_more}
use Rattle.std.proofs.lemmas.Option.{slice_get_within, slice_get-get_or}
use Rattle.sling_dispatch.specs.Endings.{IsDue, IsReplay, Means, AreWordsOf, ending_status}
use Rattle.sling_dispatch.specs.Reports.{StreamReport, HasNotFailed, IsServingUntouched, IsUntouched, IsDiskUntouched, IsWorldUntouched, call_of}
use Rattle.sling_dispatch.specs.Forms.{IsServe}
use Rattle.sp_outside.specs.Calls.{Call}
use Rattle.sp_outside.specs.Files.{Files}
use Rattle.serve_loop.specs.Served.{DiskReport, WorldReport}
use Rattle.sling_dispatch.specs.declared.ending.Ending.{Ending}
use Rattle.sling_dispatch.specs.declared.ending.Ending.TheVariants.{NoMemory}
use Rattle.sling_dispatch.proofs.Meanings.{out_of_memory}

push_at : (all words : List (List ℕ)) (place : ℕ) (word : List ℕ) → words ≡ take place all → Some word ≡ slice_get all place
    → words ++ word ∷ [] ≡ take (place + 1) all
push_at all words place word e h =
    let within = slice_get_within all place word (sym h) in
    let is : Some word ≡ Some (get_or all place word) = h ∙ slice_get-get_or all place word within in
    let same : word ≡ get_or all place word = cc in
    ap (λ t. t ++ word ∷ []) e ∙ ap (λ x. take place all ++ x ∷ []) same ∙ sym (take_more all place word within)

-- one more word was read
pub words_push : (told : Option (List (List ℕ))) (words : List (List ℕ)) (place : ℕ) (word : List ℕ) → IfSome told (λ all. words ≡ take place all)
    → IfSome told (λ all. Some word ≡ slice_get all place) → IfSome told (λ all. words ++ word ∷ [] ≡ take (place + 1) all)
words_push None words place word e h = tt
words_push (Some all) words place word e h = push_at all words place word e h

some_words : (told : Option (List (List ℕ))) → (words : List (List ℕ)) × AreWordsOf told words
some_words None = ([], tt)
some_words (Some all) = (all, refl)

-- nothing was done, since memory ran out
pub words_unread : (told : Option (List (List ℕ))) (source : StreamReport (List ℕ)) (inputs : StreamReport Files) (disk : DiskReport) (world : WorldReport) (sink : StreamReport (List ℕ)) (status : ℕ) (calls : Option (List Call))
    → status ≡ ending_status NoMemory → IsUntouched source → IsUntouched inputs → IsDiskUntouched disk → IsWorldUntouched world → sink.new ≡ sink.old
    → HasNotFailed sink → (words : List (List ℕ)) × AreWordsOf told words × (e : Ending) × (status ≡ ending_status e)
    × Means (IsDue (call_of words source inputs disk world)) e sink × ((IsServe words → ⊥) → IsServingUntouched (call_of words source inputs disk world) × (calls ≡ calls))
    × ((IsReplay words → ⊥) → IsUntouched source)
words_unread told source inputs disk world sink status calls is source_is inputs_are disk_is world_is same not_failed =
    let w = some_words told in (
      w.0,
      w.1,
      NoMemory,
      is,
      out_of_memory (IsDue (call_of w.0 source inputs disk world)) world_is sink same not_failed,
      (λ none. (record { inputs = inputs_are; disk = disk_is; world = world_is }, refl)),
      (λ none. source_is),
    )
