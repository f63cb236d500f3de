-- What a session begins with: over no files a front stands for the first session of an empty log.
use Rattle.std.proofs.Common.{◌≡◌, ◌∙◌, ℕ, suc, List, [], ◌∷◌, Some, Ok, ap, length, map, refl, sym, subst}
use Rattle.std.specs.FinMap.{FinMap, empty, entries, len-entries, len-empty}
use Rattle.sp_base.specs.Names.{by_name}
use Rattle.resource_tree.specs.Content.{Content}
use Rattle.any_config.specs.declared.farm.Farm.{Farm}
use Rattle.cache_files.specs.Epochs.{next_epoch}
use Rattle.cache_log.specs.Entries.{Session}
use Rattle.coherence_core.specs.Holds.{HoldsClosed, files_counted}
use Rattle.run_events.specs.States.{start_of}
use Rattle.front.specs.Boards.{BoardAt}
use Rattle.front.specs.Fronts.{BeginsRun, FrontStandsFor, epoch_of_board}
use Rattle.sling_dispatch.specs.Runs.{sling_publisher, sling_start}

length_map : {A B : Type 0} (f : A → B) (xs : List A) → length (map f xs) ≡ length xs
length_map f [] = refl
length_map f (x ∷ xs) = ap (λ n. suc n) (length_map f xs)

none_counted : files_counted empty ≡ 0
none_counted =
    let none : FinMap by_name (List ℕ) = empty in
    length_map (λ (e : List ℕ × List ℕ). e.0) (entries none) ∙ sym (len-entries none) ∙ len-empty by_name (List ℕ)

pub begins : (tree now : Content) (farm : Farm) (b : BoardAt) → next_epoch empty ≡ Ok 1 → HoldsClosed farm empty [] → BeginsRun sling_publisher tree farm (Some empty) b now
    → next_epoch empty ≡ Ok (epoch_of_board b) → FrontStandsFor sling_publisher now b (start_of (sling_start farm tree))
begins tree now farm b first closed run epoch =
    let same : Ok 1 ≡ Ok (epoch_of_board b) = sym first ∙ epoch in
    let is : 1 ≡ epoch_of_board b = cc (same) in
    subst (λ (n : ℕ). FrontStandsFor sling_publisher now b (start_of (record { publishing = sling_publisher; farm = farm; content = tree; log = Session n ∷ []; found = 0 })))
    (sym is) (subst (λ (n : ℕ). FrontStandsFor sling_publisher now b (start_of (record { publishing = sling_publisher; farm = farm; content = tree; log = Session (epoch_of_board b) ∷ []; found = n }))) none_counted (run [] closed))
