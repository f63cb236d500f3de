-- Hosts that are at fault.
use Rattle.std.proofs.Common.{◌≡◌, ◌≢◌, ◌⊎◌, inl, inr, ℕ, Bool, true, false, cond, eqb, List, [], Option, Some, None, Ok, Err, codes, length, refl, ap, sym, ◌∙◌, subst}
use Rattle.sp_base.specs.Outcomes.{◌>>=◌}
use Rattle.sp_base.specs.Limits.{greatest_port}
use Rattle.sp_base.proofs.ListLemmas.{nil_from_test}
use Rattle.glob_rules.specs.Reading.{glob_of}
use Rattle.glob_rules.specs.declared.fault.GlobFault.{GlobFault}
use Rattle.glob_rules.specs.declared.piece.GlobPiece.{GlobPiece}
use Rattle.any_config.specs.Farms.{FarmOutcome, member_word, or_bad, decimal, glob, at_last_colon, host_cut, host, served_host}
use Rattle.any_config.specs.declared.farm.VirtualHost.{VirtualHost}
use Rattle.any_config.specs.declared.farm_fault.FarmFault.{FarmFault}
use Rattle.any_config.specs.declared.farm_fault.FarmFault.TheVariants.{BadKind}
use Rattle.any_config.specs.declared.node.AnyNode.{AnyNode}
use Rattle.rule_laws.specs.FarmFaults.{IsNoWord, IsBadHostText, IsBadHost}
use Rattle.rule_laws.specs.FarmTable.{IsServedHost}
use Rattle.rule_laws.proofs.MemberLemmas.{word_found, word_only}
use Rattle.rule_laws.proofs.HostLemmas.{Cut, colon_at, cut_of, no_colon, served_found, served_only}
use Rattle.rule_laws.proofs.FaultLemmas.{Row, bad_number, fault_is, glob_fails, no_word, split}

-- no glob reads this text, told by a name
abbrev Unread : List ℕ → List ℕ → FarmFault → Type 0
Unread name text fault = ((f : GlobFault) × (glob_of text ≡ Err f)) × (fault ≡ BadKind name)

abbrev port_then : List ℕ → List ℕ → List GlobPiece → FarmOutcome VirtualHost
port_then name digits g = or_bad name (decimal greatest_port digits) >>= λ port. Ok (record { name = g; port = Some port })

port_found : (name digits : List ℕ) (g : List GlobPiece) (fault : FarmFault) → port_then name digits g ≡ Err fault → (decimal greatest_port digits ≡ None) × (fault ≡ BadKind name)
port_found name digits g fault e = side (split (or_bad name (decimal greatest_port digits)) (λ port. Ok (record { name = g; port = Some port })) fault ((decimal greatest_port digits ≡ None) × (fault ≡ BadKind name)) ⊥ (λ port at h. absurd cc) (bad_number name (decimal greatest_port digits) fault) e)
  where
    side : ((decimal greatest_port digits ≡ None) × (fault ≡ BadKind name)) ⊎ ⊥ → (decimal greatest_port digits ≡ None) × (fault ≡ BadKind name)
    side (inl bad) = bad
    side (inr none) = absurd none

host_found : (name text : List ℕ) (fault : FarmFault) → host name text ≡ Err fault → IsBadHostText text × (fault ≡ BadKind name)
unfolding host
host_found name text fault e = go (at_last_colon text) (cut_of text) e
  where
    go : (o : Option (List ℕ × List ℕ)) → Cut text o → host_cut name text o ≡ Err fault → IsBadHostText text × (fault ≡ BadKind name)
    go None (Cut.Whole none) f = side (split (glob name text) (λ g. Ok (record { name = g; port = None })) fault (Unread name text fault) ⊥ (λ g at h. absurd cc) (glob_fails name text fault).found f)
      where
        side : Unread name text fault ⊎ ⊥ → IsBadHostText text × (fault ≡ BadKind name)
        side (inl bad) = (IsBadHostText.Whole none bad.0.1, bad.1)
        side (inr none) = absurd none
    go (Some cut) (Cut.Parts at) f = side (split (glob name cut.0) (port_then name cut.1) fault (Unread name cut.0 fault) ((decimal greatest_port cut.1 ≡ None) × (fault ≡ BadKind name)) (λ g is h. port_found name cut.1 g fault h) (glob_fails name cut.0 fault).found f)
      where
        side : Unread name cut.0 fault ⊎ ((decimal greatest_port cut.1 ≡ None) × (fault ≡ BadKind name)) → IsBadHostText text × (fault ≡ BadKind name)
        side (inl bad) = (IsBadHostText.Host at bad.0.1, bad.1)
        side (inr bad) = (IsBadHostText.Port at bad.0, bad.1)

host_only : (name text : List ℕ) → IsBadHostText text → host name text ≡ Err (BadKind name)
unfolding host
host_only name text (IsBadHostText.Whole {fault = f} none e) = ap (host_cut name text) (no_colon text none) ∙ ap (λ o. o >>= λ g. Ok (record { name = g; port = None })) ((glob_fails name text (BadKind name)).only ((f, e), refl))
host_only name text (IsBadHostText.Host {host = before} {port = digits} {fault = f} at e) =
    ap (host_cut name text) (ap at_last_colon at.spells ∙ colon_at before digits at.last) ∙ ap (λ o. o >>= port_then name digits) ((glob_fails name before (BadKind name)).only ((f, e), refl))
host_only name text (IsBadHostText.Port {host = before} {port = digits} at e) = ap (host_cut name text) (ap at_last_colon at.spells ∙ colon_at before digits at.last) ∙ go (glob name before) refl
  where
    go : (o : FarmOutcome (List GlobPiece)) → glob name before ≡ o → (glob name before >>= port_then name digits) ≡ Err (BadKind name)
    go (Ok g) is = ap (λ o. o >>= port_then name digits) is ∙ ap (λ n. or_bad name n >>= λ port. Ok (record { name = g; port = Some port })) e
    go (Err f) is = ap (λ o. o >>= port_then name digits) (is ∙ ap Err ((glob_fails name before f).found is).1)

abbrev host_word : AnyNode → FarmOutcome VirtualHost
host_word value = member_word (codes "virtualhosts") value >>= λ text. host (codes "virtualhosts") text

some_bytes : (name : List ℕ) → eqb (length name) 0 ≡ false → name ≢ []
some_bytes name e same = absurd (let f : true ≡ false = sym (ap (λ (n : List ℕ). eqb (length n) 0) same) ∙ e in cc)

bytes_of : (name : List ℕ) → name ≢ [] → eqb (length name) 0 ≡ false
bytes_of name some = go (eqb (length name) 0) refl
  where
    go : (x : Bool) → eqb (length name) 0 ≡ x → x ≡ false
    go true is = absurd (some (nil_from_test name is))
    go false is = refl

pub host_row : (fault : FarmFault) (m : List ℕ × AnyNode) → Row (served_host m) ((h : VirtualHost) × IsServedHost m h) fault (IsBadHost m fault)
unfolding served_host
host_row fault m = record {
  fails = record { found = λ e. go (eqb (length m.0) 0) refl e; only = λ bad. fail fault bad };
  right = λ h e. (h, served_found m h e);
  reads = λ some. (some.0, served_only m some.0 some.1);
}
  where
    of_word : m.0 ≡ [] → host_word m.1 ≡ Err fault → IsBadHost m fault
    of_word unnamed e = side (split (member_word (codes "virtualhosts") m.1) (λ text. host (codes "virtualhosts") text) fault (IsNoWord (codes "virtualhosts") m.1 fault) (IsBadHost m fault) (λ text is g. of_text text is (host_found (codes "virtualhosts") text fault g)) (no_word (codes "virtualhosts") m.1 fault).found e)
      where
        of_text : (text : List ℕ) → member_word (codes "virtualhosts") m.1 ≡ Ok text → IsBadHostText text × (fault ≡ BadKind (codes "virtualhosts")) → IsBadHost m fault
        of_text text is bad = subst (λ (f : FarmFault). IsBadHost m f) (sym bad.1) (IsBadHost.Unread unnamed (word_found (codes "virtualhosts") m.1 text is) bad.0)

        side : IsNoWord (codes "virtualhosts") m.1 fault ⊎ IsBadHost m fault → IsBadHost m fault
        side (inl none) = IsBadHost.NoWord unnamed none
        side (inr bad) = bad

    go : (x : Bool) → eqb (length m.0) 0 ≡ x → cond x (host_word m.1) (Err (BadKind m.0)) ≡ Err fault → IsBadHost m fault
    go true is e = of_word (nil_from_test m.0 is) e
    go false is e = subst (λ (f : FarmFault). IsBadHost m f) (fault_is (BadKind m.0) fault e) (IsBadHost.Named (some_bytes m.0 is))

    unnamed : (f : FarmFault) → m.0 ≡ [] → host_word m.1 ≡ Err f → cond (eqb (length m.0) 0) (host_word m.1) (Err (BadKind m.0)) ≡ Err f
    unnamed f none e = ap (λ (n : List ℕ). cond (eqb (length n) 0) (host_word m.1) (Err (BadKind m.0))) none ∙ e

    fail : (f : FarmFault) → IsBadHost m f → cond (eqb (length m.0) 0) (host_word m.1) (Err (BadKind m.0)) ≡ Err f
    fail f (IsBadHost.Named some) = ap (λ (b : Bool). cond b (host_word m.1) (Err (BadKind m.0))) (bytes_of m.0 some)
    fail f (IsBadHost.NoWord none bad) = unnamed f none (ap (λ o. o >>= λ text. host (codes "virtualhosts") text) ((no_word (codes "virtualhosts") m.1 f).only bad))
    fail f (IsBadHost.Unread {text = text} none is bad) = unnamed f none (ap (λ o. o >>= λ text. host (codes "virtualhosts") text) (word_only (codes "virtualhosts") m.1 text is) ∙ host_only (codes "virtualhosts") text bad)
