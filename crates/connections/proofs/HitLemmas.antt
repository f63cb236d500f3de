-- A permitted hit of a legal log is storable.
use Rattle.std.proofs.Common.{◌≡◌, List, [], ◌∷◌, Option, Some, subst, ⊎_elim}
use Rattle.std.specs.Prelude.{IsTrue}
use Rattle.sp_base.specs.declared.answer.Answer.{Answer}
use Rattle.any_config.specs.declared.farm.Farm.{Farm}
use Rattle.cover_rules.specs.declared.page.PageKey.{PageKey}
use Rattle.dispatch_rules.specs.Caching.{is_storable}
use Rattle.cache_ids.specs.Ids.{FlightId}
use Rattle.cache_log.specs.Entries.{Kept, Unkept, Passed, Done, Failed, LogEntry, Asked, Landed, Lost, Begun, Sliced, Ended, Hit, Up, Down, Session}
use Rattle.cache_log.specs.Hits.{MayHit, stored}
use Rattle.cache_log.specs.Rules.{IsLegal, MayStore}
use Rattle.connections.specs.Slots.{IsHit}

stored-storable : (farm : Farm) (log : List LogEntry) (n : FlightId) (landed : Option PageKey) (key : PageKey) (given a : Answer) → MayStore farm log n landed given → landed ≡ Some key → stored given ≡ a → IsTrue (is_storable a)
stored-storable farm log n landed key given a may is same =
    let here : MayStore farm log n (Some key) given = subst (λ k. MayStore farm log n k given) is may in
    subst (λ (x : Answer). IsTrue (is_storable x)) same here.0

hit-storable : (farm : Farm) (log : List LogEntry) (key : PageKey) (a : Answer) → IsLegal farm log → MayHit farm log key a → IsTrue (is_storable a)
hit-storable farm [] key a legal may = absurd may
hit-storable farm (Landed n landed given Kept ∷ log) key a legal may =
    ⊎_elim (λ here. stored-storable farm log n landed key given a legal.0.1.1 here.0 here.1) (λ past. hit-storable farm log key a legal.1 past.1) may
hit-storable farm (Landed n landed given Unkept ∷ log) key a legal may =
    ⊎_elim (λ here. stored-storable farm log n landed key given a legal.0.1.1 here.0 here.1) (λ past. hit-storable farm log key a legal.1 past) may
hit-storable farm (Landed n landed given Passed ∷ log) key a legal may = hit-storable farm log key a legal.1 may
hit-storable farm (Ended v Done ∷ log) key a legal may = hit-storable farm log key a legal.1 may.1
hit-storable farm (Ended v Failed ∷ log) key a legal may = hit-storable farm log key a legal.1 may
hit-storable farm (Asked n k ∷ log) key a legal may = hit-storable farm log key a legal.1 may
hit-storable farm (Lost n ∷ log) key a legal may = hit-storable farm log key a legal.1 may
hit-storable farm (Begun v inv ∷ log) key a legal may = hit-storable farm log key a legal.1 may
hit-storable farm (Sliced v ∷ log) key a legal may = hit-storable farm log key a legal.1 may
hit-storable farm (Hit other ∷ log) key a legal may = hit-storable farm log key a legal.1 may
hit-storable farm (Up epoch ∷ log) key a legal may = hit-storable farm log key a legal.1 may
hit-storable farm (Down ∷ log) key a legal may = hit-storable farm log key a legal.1 may
hit-storable farm (Session epoch ∷ log) key a legal may = hit-storable farm log key a legal.1 may

pub legal-hit : (farm : Farm) (log : List LogEntry) (key : PageKey) (a : Answer) → IsLegal farm log → MayHit farm log key a → IsHit farm log key a
legal-hit farm log key a legal may = (may, hit-storable farm log key a legal may)
