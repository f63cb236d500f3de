use Rattle.docroot_changes.specs.Changes.{Told}
use Rattle.docroot_changes.proofs.MadeCalls.{makes_more}
use Rattle.front.specs.Clearings.{ClearsFiles, ClearsPagesFirst, HasNoFile, is_of_cache}
use Rattle.front.specs.declared.clearing.CacheFile.TheVariants.{Page, Stamp}
use Rattle.front.proofs.ClearingLemmas.{ClearsAll, Relation, clears-all, pages-first, pages-gone, told-as, told-both, told-then}
use Rattle.front.proofs.FrontLemmas.{ok-then}
use Rattle.front.proofs.OpeningLemmas.{begins-fresh}
use Rattle.front.proofs.front.Front.fresh.Goals as goal

pub returns-clause-stands : goal.returns-clause-stands
returns-clause-stands g c =
    let start = g.D.Disk.files c.args.disk.now in
    let between = g.D.Disk.files c.clear.new.disk in
    let after = g.D.Disk.files c.clear-2.new.disk in
    let pages : Relation = λ a b. ClearsFiles (is_of_cache Page) a b × HasNoFile Page b in
    let stamps : Relation = λ a b. ClearsFiles (is_of_cache Stamp) a b × HasNoFile Stamp b in
    let first = told-both (ClearsFiles (is_of_cache Page)) (λ a b. HasNoFile Page b) pages start between (λ a b p q. (p, q)) c.in_ok-clear.ensures.left c.in_ok-clear.ensures.none in
    ok-then c.clear-2.result c.clear-2.ensures.none (λ none.
    let then = told-both (ClearsFiles (is_of_cache Stamp)) (λ a b. HasNoFile Stamp b) stamps between after (λ a b p q. (p, q)) c.clear-2.ensures.left none in
    let all : Told ClearsAll start after = told-then pages stamps ClearsAll start between after clears-all first then in
    begins-fresh _ _ c.args.self.now.board (g.D.Disk.faults c.clear-2.new.disk) start after c.names_tell_their_files.ensures.epoch_page c.names_tell_their_files.ensures.epoch_stat c.a_session_begins_without_pages.ensures.stands c.a_session_begins_without_pages.ensures.kept all)

pub returns-clause-order : goal.returns-clause-order
returns-clause-order g c =
    let start = g.D.Disk.files c.args.disk.now in
    let between = g.D.Disk.files c.clear.new.disk in
    let after = g.D.Disk.files c.clear-2.new.disk in
    let pages : Relation = λ a b. ClearsFiles (is_of_cache Page) a b × HasNoFile Page b in
    let first = told-both (ClearsFiles (is_of_cache Page)) (λ a b. HasNoFile Page b) pages start between (λ a b p q. (p, q)) c.in_ok-clear.ensures.left c.in_ok-clear.ensures.none in
    told-then pages (ClearsFiles (is_of_cache Stamp)) ClearsPagesFirst start between after pages-gone first c.clear-2.ensures.left

pub returns-in_err-clear-clause-order : goal.returns-in_err-clear-clause-order
returns-in_err-clear-clause-order g c =
    told-as (ClearsFiles (is_of_cache Page)) ClearsPagesFirst (g.D.Disk.files c.args.disk.now) (g.D.Disk.files c.clear.new.disk) (pages-first c.names_tell_their_files.ensures.apart) c.clear.ensures.left

pub returns-clause-calls : goal.returns-clause-calls
returns-clause-calls g c = makes_more _ _ _ c.clear.ensures.calls c.clear-2.ensures.calls
