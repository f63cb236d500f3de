use Rattle.std.proofs.Common.{[], ◌∷◌}
use Rattle.sp_outside.specs.Calls.{Get}
use Rattle.cache_files.specs.Pages.{page_body_name, page_head_name}
use Rattle.docroot_changes.proofs.CacheCalls.{ArePageFiles, body_kept, drop_made, head_kept, put_made}
use Rattle.docroot_changes.proofs.MadeCalls.{first_made, read_made}
use Rattle.docroot_changes.proofs.calls.pages_take_docroot_calls.Goals as goal

pub returns-clause-put : goal.returns-clause-put
returns-clause-put c = λ result asked made before after key stamp answer page.
    let are : ArePageFiles key = record { body = c.names_tell_their_files.ensures.body key page; head = c.names_tell_their_files.ensures.head key page; body_lies = c.names_lie_in_the_docroot.ensures.body key page; head_lies = c.names_lie_in_the_docroot.ensures.head key page } in
    put_made result asked made before after key stamp answer are

pub returns-clause-dropped : goal.returns-clause-dropped
returns-clause-dropped c = λ result asked made before after key page.
    let are : ArePageFiles key = record { body = c.names_tell_their_files.ensures.body key page; head = c.names_tell_their_files.ensures.head key page; body_lies = c.names_lie_in_the_docroot.ensures.body key page; head_lies = c.names_lie_in_the_docroot.ensures.head key page } in
    drop_made result asked made before after key are

pub returns-clause-got : goal.returns-clause-got
returns-clause-got c = λ asked made key page.
    let are : ArePageFiles key = record { body = c.names_tell_their_files.ensures.body key page; head = c.names_tell_their_files.ensures.head key page; body_lies = c.names_lie_in_the_docroot.ensures.body key page; head_lies = c.names_lie_in_the_docroot.ensures.head key page } in
    first_made (Get (page_head_name key) ∷ Get (page_body_name key) ∷ []) (λ answered. head_kept key are, (λ answered. body_kept key are, tt)) asked made

pub returns-clause-head : goal.returns-clause-head
returns-clause-head c = λ result asked made key page.
    let are : ArePageFiles key = record { body = c.names_tell_their_files.ensures.body key page; head = c.names_tell_their_files.ensures.head key page; body_lies = c.names_lie_in_the_docroot.ensures.body key page; head_lies = c.names_lie_in_the_docroot.ensures.head key page } in
    read_made (Get (page_head_name key)) (λ answered. head_kept key are) result asked made

pub returns-clause-known : goal.returns-clause-known
returns-clause-known c = λ result asked made key page.
    let are : ArePageFiles key = record { body = c.names_tell_their_files.ensures.body key page; head = c.names_tell_their_files.ensures.head key page; body_lies = c.names_lie_in_the_docroot.ensures.body key page; head_lies = c.names_lie_in_the_docroot.ensures.head key page } in
    read_made (Get (page_body_name key)) (λ answered. body_kept key are) result asked made
