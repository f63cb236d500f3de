use Rattle.http_front.proofs.window.read_window.Goals as goal

pub returns-in-Ok-Complete : goal.returns-in-Ok-Complete
returns-in-Ok-Complete c = c.whole.ensures _
