-- What the notes of a run name: pages of the cache, and handles of invalidations (Adobe Dispatcher manual, "Invalidating Cached Pages From
-- AEM").
use Rattle.std.specs.Prelude.{ℕ, List, [], ◌∷◌, Some}
use Rattle.run_events.specs.declared.note.Note.{Note}
use Rattle.run_events.specs.declared.note.Note.TheVariants.{Ask as asked, Hit, Flush, Kept}
use Rattle.run_events.specs.Named.{IsPage, IsHandle}

-- the key of a note is one of a page, and its handle one of a request
abbrev pub NamesPage : Note → Type 0
NamesPage (asked n c key) = IsPage key
NamesPage (Hit c key) = IsPage (Some key)
NamesPage (Flush v c inv) = IsHandle inv.handle
NamesPage (Kept n key) = IsPage (Some key)
NamesPage _ = Unit {0}

-- the same of each note
abbrev pub NamePages : List Note → Type 0
NamePages [] = Unit {0}
NamePages (note ∷ notes) = NamesPage note × NamePages notes

-- the same of each note of the events
abbrev pub EventsNamePages : List (List Note) → Type 0
EventsNamePages [] = Unit {0}
EventsNamePages (notes ∷ events) = NamePages notes × EventsNamePages events
