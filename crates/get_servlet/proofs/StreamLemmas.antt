-- The media type of a file is one that may be kept and sent.
use Rattle.std.proofs.Common.{◌≡◌, ◌&&◌, ◌-◌, ◌==◌, ℕ, Bool, true, false, cond, not, List, Option, Some, None, IsTrue, option_map, codes, length, slice_index, refl, subst}
use Rattle.sp_base.specs.MediaTypes.{is_kind}
use Rattle.sp_base.specs.Properties.{text_in}
use Rattle.resource_tree.specs.Seen.{Resource, Seen}
use Rattle.get_servlet.specs.declared.kids.Kid.{Kid}
use Rattle.get_servlet.specs.declared.streams.Stream.{Stream}
use Rattle.get_servlet.specs.Rendering.{lists_kid, kid_of_name}
use Rattle.get_servlet.specs.Streams.{is_media_type, kid_stream, make_stream, media_type_of, stream_of}

middle : (a b c : Bool) → (a && (b && c)) ≡ true → b ≡ true
middle true true c e = refl
middle true false c e = e
middle false b c e = absurd (cc (e))

by_test : (test : Bool) (text : List ℕ) → is_media_type text ≡ test → is_kind (cond test text (codes "application/octet-stream")) ≡ true
by_test true text e = middle (not (length text == 0)) (is_kind text) (not (slice_index text 0 == 32) && not (slice_index text (length text - 1) == 32)) e
by_test false text e = refl

type_is : (text : Option (List ℕ)) → is_kind (media_type_of text) ≡ true
type_is None = refl
type_is (Some text) = by_test (is_media_type text) text refl

-- where there is a stream, its media type is one
abbrev HasKindIf : Option Stream → Type 0
HasKindIf None = Unit {0}
HasKindIf (Some stream) = is_kind stream.kind ≡ true

made : (kind body : Option (List ℕ)) → HasKindIf (option_map (make_stream kind) body)
made kind None = tt
made kind (Some body) = type_is kind

of_kid : (kid : Option Kid) → HasKindIf (kid_stream kid)
of_kid None = tt
of_kid (Some kid) = made (text_in kid.res.props (codes "jcr:mimeType")) (text_in kid.res.props (codes "jcr:data"))

either : (test : Bool) (stream : Option Stream) → HasKindIf stream → HasKindIf (cond test stream None)
either true stream h = h
either false stream h = tt

has_kind : (seen : Seen) (res : Resource) → HasKindIf (stream_of seen res)
unfolding stream_of
has_kind seen res = either (lists_kid res (codes "jcr:content")) _ (of_kid (kid_of_name seen res.path (codes "jcr:content")))

pub stream_has_kind : (seen : Seen) (res : Resource) (stream : Stream) → stream_of seen res ≡ Some stream → IsTrue (is_kind stream.kind)
stream_has_kind seen res stream e = subst HasKindIf e (has_kind seen res)
