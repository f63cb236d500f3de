-- Hosts, and the one at which the publisher is asked.
use Rattle.std.proofs.Common.{◌≡◌, ℕ, Bool, true, false, cond, eqb, List, [], ◌∷◌, ◌++◌, Option, Some, None, Ok, Err, codes, length, refl, ap, sym, ◌∙◌, subst}
use Rattle.std.specs.Prelude.{unwrap_or}
use Rattle.std.specs.List.{AllZip}
use Rattle.std.proofs.lemmas.Bool.{eqb-true, eqb-false, ne_eqb}
use Rattle.sp_base.specs.Outcomes.{◌>>=◌}
use Rattle.sp_base.specs.Limits.{greatest_port, http_port}
use Rattle.sp_base.proofs.ListLemmas.{nil_from_test}
use Rattle.glob_rules.specs.Reading.{glob_of}
use Rattle.any_config.specs.Farms.{decimal, member_word, or_bad, glob, cut_again, at_last_colon, host_cut, host, served_host, asked_cut, asked_in, publisher_address, name_or_localhost}
use Rattle.any_config.specs.Read.{Members}
use Rattle.any_config.specs.declared.farm_fault.FarmFault.TheVariants.{BadKind}
use Rattle.glob_rules.specs.declared.piece.GlobPiece.{GlobPiece}
use Rattle.any_config.specs.declared.farm.VirtualHost.{VirtualHost}
use Rattle.any_config.specs.declared.node.AnyNode.{AnyNode}
use Rattle.rule_laws.specs.FarmTable.{IsWord, HasNoColon, IsCutAtColon, IsHostText, IsServedHost, port_or_http, IsAsked}
use Rattle.rule_laws.proofs.MemberLemmas.{bind_found, bind_only, ok_is, word_found, word_only, bad_found}
use Rattle.rule_laws.proofs.EntryLemmas.{glob_found, glob_only}

-- ---- colons

-- what the last colon cuts a text into
pub data Cut (text : List ℕ) : Option (List ℕ × List ℕ) → Type 0 where
  Whole : HasNoColon text → Cut text None
  Parts : {cut : List ℕ × List ℕ} → IsCutAtColon text cut.0 cut.1 → Cut text (Some cut)

pub cut_of : (text : List ℕ) → Cut text (at_last_colon text)
cut_of [] = Cut.Whole tt
cut_of (c ∷ t) = go (at_last_colon t) (cut_of t)
  where
    go : (o : Option (List ℕ × List ℕ)) → Cut t o → Cut (c ∷ t) (cut_again c t o)
    go (Some cut) (Cut.Parts at) = Cut.Parts {cut = (c ∷ cut.0, cut.1)} (record { spells = ap (λ (s : List ℕ). c ∷ s) at.spells; last = at.last })
    go None (Cut.Whole none) = colon (eqb c 58) refl
      where
        colon : (x : Bool) → eqb c 58 ≡ x → Cut (c ∷ t) (cond x (Some ([], t)) None)
        colon true is = Cut.Parts {cut = ([], t)} (record { spells = ap (λ (b : ℕ). b ∷ t) (eqb-true c 58 is); last = none })
        colon false is = Cut.Whole (eqb-false c 58 is, none)

pub no_colon : (text : List ℕ) → HasNoColon text → at_last_colon text ≡ None
no_colon [] none = refl
no_colon (c ∷ t) none = ap (cut_again c t) (no_colon t none.1) ∙ rw (ne_eqb c 58 none.0) refl

pub colon_at : (host port : List ℕ) → HasNoColon port → at_last_colon (host ++ 58 ∷ port) ≡ Some (host, port)
colon_at [] port none = ap (cut_again 58 port) (no_colon port none)
colon_at (c ∷ host) port none = ap (cut_again c (host ++ 58 ∷ port)) (colon_at host port none)

-- ---- hosts

pub host_found : (name text : List ℕ) (h : VirtualHost) → host name text ≡ Ok h → (part : List ℕ) × IsHostText text part h.port × (glob_of part ≡ Ok h.name)
unfolding host
host_found name text h e = go (at_last_colon text) (cut_of text) e
  where
    go : (o : Option (List ℕ × List ℕ)) → Cut text o → host_cut name text o ≡ Ok h → (part : List ℕ) × IsHostText text part h.port × (glob_of part ≡ Ok h.name)
    go None (Cut.Whole none) f =
        let g = bind_found (glob name text) _ h f in
        let made : VirtualHost = record { name = g.0; port = None } in
        let same : made ≡ h = ok_is made h g.2 in
        (text, subst (λ (v : VirtualHost). IsHostText text text v.port) same (IsHostText.Bare none), glob_found name text g.0 g.1 ∙ ap (λ (v : VirtualHost). Ok v.name) same)
    go (Some cut) (Cut.Parts at) f =
        let g = bind_found (glob name cut.0) _ h f in
        let p = bind_found (or_bad name (decimal greatest_port cut.1)) _ h g.2 in
        let made : VirtualHost = record { name = g.0; port = Some p.0 } in
        let same : made ≡ h = ok_is made h p.2 in
        (cut.0, subst (λ (v : VirtualHost). IsHostText text cut.0 v.port) same (IsHostText.AtPort at (bad_found name (decimal greatest_port cut.1) p.0 p.1)), glob_found name cut.0 g.0 g.1 ∙ ap (λ (v : VirtualHost). Ok v.name) same)

host_made : (name text part : List ℕ) (g : List GlobPiece) (port : Option ℕ) → IsHostText text part port → glob_of part ≡ Ok g → host name text ≡ Ok (record { name = g; port = port })
unfolding host
host_made name text part g port (IsHostText.Bare none) reads =
    ap (host_cut name text) (no_colon text none)
    ∙ bind_only (glob name text) _ g (record { name = g; port = None }) (glob_only name text g reads) refl
host_made name text part g port (IsHostText.AtPort {host = before} {port = digits} {n = n} at number) reads =
    ap (host_cut name text) (ap at_last_colon at.spells ∙ colon_at before digits at.last)
    ∙ bind_only (glob name before) _ g (record { name = g; port = Some n }) (glob_only name before g reads)
    (bind_only (or_bad name (decimal greatest_port digits)) _ n (record { name = g; port = Some n }) (ap (or_bad name) number) refl)

-- ---- served hosts

pub served_found : (m : List ℕ × AnyNode) (h : VirtualHost) → served_host m ≡ Ok h → IsServedHost m h
unfolding served_host
served_found m h e = go (eqb (length m.0) 0) refl e
  where
    go : (x : Bool) → eqb (length m.0) 0 ≡ x → cond x (member_word (codes "virtualhosts") m.1 >>= λ text. host (codes "virtualhosts") text) (Err (BadKind m.0)) ≡ Ok h → IsServedHost m h
    go true is f =
        let w = bind_found (member_word (codes "virtualhosts") m.1) (λ text. host (codes "virtualhosts") text) h f in
        let cut = host_found (codes "virtualhosts") w.0 h w.2 in
        record { text = w.0; name = cut.0; unnamed = nil_from_test m.0 is; word = word_found (codes "virtualhosts") m.1 w.0 w.1; cut = cut.1; reads = cut.2 }
    go false is f = absurd cc

pub served_only : (m : List ℕ × AnyNode) (h : VirtualHost) → IsServedHost m h → served_host m ≡ Ok h
unfolding served_host
served_only m h s =
    let none : eqb (length m.0) 0 ≡ true = ap (λ (name : List ℕ). eqb (length name) 0) s.unnamed in
    rw none (bind_only (member_word (codes "virtualhosts") m.1) (λ text. host (codes "virtualhosts") text) s.text h (word_only (codes "virtualhosts") m.1 s.text s.word) (host_made (codes "virtualhosts") s.text s.name h.name h.port s.cut s.reads))

-- ---- the host at which the publisher is asked

asked_by : (text name : List ℕ) (port : Option ℕ) → IsHostText text name port → asked_cut text (at_last_colon text) ≡ (name_or_localhost name, port_or_http port)
asked_by text name port (IsHostText.Bare none) = ap (asked_cut text) (no_colon text none)
asked_by text name port (IsHostText.AtPort {host = before} {port = digits} {n = n} at number) =
    ap (asked_cut text) (ap at_last_colon at.spells ∙ colon_at before digits at.last) ∙ ap (λ (o : Option ℕ). (let p : List ℕ × ℕ = (name_or_localhost before, unwrap_or o http_port) in p)) number

first_asked : (m : List ℕ × AnyNode) (more : Members) (text name : List ℕ) (port : Option ℕ) → IsWord m.1 text → IsHostText text name port → publisher_address (m ∷ more) ≡ (name_or_localhost name, port_or_http port)
unfolding publisher_address
first_asked m more text name port word cut = ap asked_in word ∙ asked_by text name port cut

pub asked_found : (served : Members) (hosts : List VirtualHost) → AllZip IsServedHost served hosts → IsAsked served (publisher_address served).0 (publisher_address served).1
unfolding publisher_address
asked_found [] hosts all = IsAsked.NoHost
asked_found (m ∷ more) [] all = absurd all
asked_found (m ∷ more) (h ∷ hosts) all =
    let s = all.0 in
    subst (λ (p : List ℕ × ℕ). IsAsked (m ∷ more) p.0 p.1) (sym (first_asked m more s.text s.name h.port s.word s.cut)) (IsAsked.First s.word s.cut)

pub asked_only : (served : Members) (name : List ℕ) (port : ℕ) → IsAsked served name port → publisher_address served ≡ (name, port)
unfolding publisher_address
asked_only served name port IsAsked.NoHost = refl
asked_only served name port (IsAsked.First {m = m} {more = more} {text = text} {name = part} {port = at} word cut) = first_asked m more text part at word cut
