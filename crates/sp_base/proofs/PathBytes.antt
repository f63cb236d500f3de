-- A text's bytes are below 256, and so are those of what is made of one.
use Rattle.std.proofs.Common.{ℕ, zero, suc, Bool, true, false, cond, ◌++◌, List, [], ◌∷◌, IsUtf8, length, drop, codes, arith}
use Rattle.std.specs.List.{AllByRecursion}
use Rattle.sp_base.specs.Bytes.{AreBytes}
use Rattle.sp_base.specs.Paths.{is_namespaced, mangled_segs, mangled_by, mangled_seg}
use Rattle.sp_base.specs.PathTexts.{spelling_of}
use Rattle.sp_base.proofs.TextBytes.{both_are_bytes, text_bytes}

first_bytes : (a b : List ℕ) → AreBytes (a ++ b) → AreBytes a
first_bytes [] b p = tt
first_bytes (x ∷ a) b p = (p.0, first_bytes a b p.1)

last_bytes : (a b : List ℕ) → AreBytes (a ++ b) → AreBytes b
last_bytes [] b p = p
last_bytes (x ∷ a) b p = last_bytes a b p.1

segments_bytes : (segs : List (List ℕ)) → AreBytes (spelling_of segs) → AllByRecursion AreBytes segs
segments_bytes [] p = tt
segments_bytes (seg ∷ segs) p = (first_bytes seg (spelling_of segs) p.1, segments_bytes segs (last_bytes seg (spelling_of segs) p.1))

pub spelled_bytes : (segs : List (List ℕ)) → IsUtf8 (spelling_of segs) → AllByRecursion AreBytes segs
spelled_bytes segs u = segments_bytes segs (text_bytes (spelling_of segs) u)

-- ---- what is made of a path

dropped_bytes : (n : ℕ) (seg : List ℕ) → AreBytes seg → AreBytes (drop n seg)
dropped_bytes zero seg p = p
dropped_bytes (suc n) [] p = tt
dropped_bytes (suc n) (b ∷ seg) p = dropped_bytes n seg p.1

chosen_bytes : (b : Bool) (x y : List ℕ) → AreBytes x → AreBytes y → AreBytes (cond b x y)
chosen_bytes true x y p q = p
chosen_bytes false x y p q = q

marked_bytes : (prefix namespace_mark seg : List ℕ) → AreBytes namespace_mark → AreBytes seg → AreBytes (mangled_by prefix namespace_mark seg)
marked_bytes prefix namespace_mark seg m p = both_are_bytes namespace_mark (drop (length prefix) seg) m (dropped_bytes (length prefix) seg p)

jcr : AreBytes (codes "_jcr_")
jcr = (omega arith, (omega arith, (omega arith, (omega arith, (omega arith, tt)))))

sling : AreBytes (codes "_sling_")
sling = (omega arith, (omega arith, (omega arith, (omega arith, (omega arith, (omega arith, (omega arith, tt)))))))

nt : AreBytes (codes "_nt_")
nt = (omega arith, (omega arith, (omega arith, (omega arith, tt))))

cq : AreBytes (codes "_cq_")
cq = (omega arith, (omega arith, (omega arith, (omega arith, tt))))

mangled_bytes : (seg : List ℕ) → AreBytes seg → AreBytes (mangled_seg seg)
mangled_bytes seg p =
    chosen_bytes (is_namespaced (codes "jcr:") seg) _ _ (marked_bytes (codes "jcr:") (codes "_jcr_") seg jcr p)
    (chosen_bytes (is_namespaced (codes "sling:") seg) _ _ (marked_bytes (codes "sling:") (codes "_sling_") seg sling p)
    (chosen_bytes (is_namespaced (codes "nt:") seg) _ _ (marked_bytes (codes "nt:") (codes "_nt_") seg nt p)
    (chosen_bytes (is_namespaced (codes "cq:") seg) _ _ (marked_bytes (codes "cq:") (codes "_cq_") seg cq p) p)))

pub all_mangled : (segs : List (List ℕ)) → AllByRecursion AreBytes segs → AllByRecursion AreBytes (mangled_segs segs)
all_mangled [] p = tt
all_mangled (seg ∷ segs) p = (mangled_bytes seg p.0, all_mangled segs p.1)
