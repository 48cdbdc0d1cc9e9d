use Rattle.std.proofs.Common.{rules, ◌≡◌, true, false, Some, arith}
use Rattle.std.proofs.lemmas.Result.{err_from_is_err_and}
use Rattle.fh_model.specs.History.{state_of}
use Rattle.fh_model.specs.Pieces.{end_in}
use Rattle.gate_journal.specs.Journal.{is_pending}
use Rattle.store_core.specs.Store.{Opened}
use Rattle.store_core.proofs.AppendLemmas.{idle_waits, sound_put, same_put, run_put, around_put, same_after, unopened_after, begins_after, around_after, entered_after, waiting_after, faulted_after}
use Rattle.store_core.proofs.StateLemmas.{idle_end, settled, sound_kept}
use Rattle.store_core.proofs.FetchLemmas.{sound_lies}
use Rattle.store_core.proofs.store.Store.append.Goals as goal
use Rattle.store_core.proofs.store.Store.append.Goals.{in-MakeFolder-3, in-Upload-3}

pub invariant_of-self : goal.invariant_of-self
invariant_of-self g c =
    let d = g.D.Disk in let at = c.self.inside in
    let idle = rw (← c.self.view_is) at c.requires.idle in let bytes = c.args.content.now in
    let end : c.end.result ≡ end_in (state_of at.image) = search rules in
    sound_put d at.disk at.journal at.image at.waiting c.self.invariant idle c.put.new.disk bytes c.end.result end c.put.ensures.writes c.put.ensures.any_moment

pub returns-in_err-put-clause-below : goal.returns-in_err-put-clause-below
returns-in_err-put-clause-below g c =
    let d = g.D.Disk in let at = c.self.inside in
    let idle = rw (← c.self.view_is) at c.requires.idle in let bytes = c.args.content.now in
    let end : c.end.result ≡ end_in (state_of at.image) = search rules in
    rw (← c.self.view_is) (λ told. same_put d at.disk at.journal at.image at.waiting c.self.invariant idle c.put.new.disk bytes c.end.result end c.put.ensures.writes c.put.ensures.any_moment told)

pub returns-in_err-put-clause-kept : goal.returns-in_err-put-clause-kept
returns-in_err-put-clause-kept g c = λ told. sound_kept g.D.Disk c.put.new.disk c.self.inside.journal c.self.inside.image c.self.inside.waiting told (invariant_of-self g c)

pub returns-in_err-put-clause-any_moment : goal.returns-in_err-put-clause-any_moment
returns-in_err-put-clause-any_moment g c =
    let d = g.D.Disk in let at = c.self.inside in
    let idle = rw (← c.self.view_is) at c.requires.idle in let bytes = c.args.content.now in
    let end : c.end.result ≡ end_in (state_of at.image) = search rules in
    rw (← c.self.view_is) (λ told. around_put d at.disk at.journal at.image at.waiting c.self.invariant idle c.put.new.disk bytes c.end.result end c.put.ensures.writes c.put.ensures.any_moment c.args.cmd told)

pub returns-in_err-put-clause-unwritten : goal.returns-in_err-put-clause-unwritten
returns-in_err-put-clause-unwritten g c =
    let d = g.D.Disk in let at = c.self.inside in
    let idle = rw (← c.self.view_is) at c.requires.idle in let bytes = c.args.content.now in
    let end : c.end.result ≡ end_in (state_of at.image) = search rules in
    let p = err_from_is_err_and c.from_residual.result c.from_residual.ensures.1 in
    rw p.1 (rw (← c.self.view_is) (λ none told. run_put d at.disk at.journal at.image at.waiting c.self.invariant idle c.put.new.disk bytes c.end.result end c.put.ensures.writes c.put.ensures.any_moment told))

pub returns-in_err-put-clause-left : goal.returns-in_err-put-clause-left
returns-in_err-put-clause-left g c =
    let at = c.self.inside in
    let idle = rw (← c.self.view_is) at c.requires.idle in
    let p = err_from_is_err_and c.from_residual.result c.from_residual.ensures.1 in
    rw p.1 (rw (← c.self.view_is) (λ waits told. absurd (idle_waits at.waiting idle waits)))

pub end-requires : goal.end-requires
end-requires g c =
    let d = g.D.Disk in let at = c.self.inside in
    let idle = rw (← c.self.view_is) at c.requires.idle in
    idle_end d at.disk at.journal at.image at.waiting c.self.invariant idle

pub put-requires-clause-within : goal.put-requires-clause-within
put-requires-clause-within g c = λ told.
    let d = g.D.Disk in let at = c.self.inside in
    let end : c.end.result ≡ end_in (state_of at.image) = search rules in
    omega (arith, end, sound_lies d at.disk at.journal at.image at.waiting c.self.invariant told)

pub append-requires-clause-settled : goal.append-requires-clause-settled
append-requires-clause-settled g c = λ told.
    let d = g.D.Disk in let at = c.self.inside in
    let idle = rw (← c.self.view_is) at c.requires.idle in let bytes = c.args.content.now in
    let end : c.end.result ≡ end_in (state_of at.image) = search rules in
    let is = settled d c.put.new.disk at.journal at.image at.waiting (sound_put d at.disk at.journal at.image at.waiting c.self.invariant idle c.put.new.disk bytes c.end.result end c.put.ensures.writes c.put.ensures.any_moment) idle told in
    (is.bodies, is.slot)

pub invariant_of-self-in-Ok : goal.invariant_of-self-in-Ok
invariant_of-self-in-Ok g c =
    let d = g.D.Disk in let at = c.self.inside in
    let idle = rw (← c.self.view_is) at c.requires.idle in let bytes = c.args.content.now in
    let end : c.end.result ≡ end_in (state_of at.image) = search rules in
    let enters = rw (← c.self.view_is) at c.requires.enters in let piece = rw (← c.self.view_is) at c.requires.piece in
    let next = rw (← c.self.view_is) at c.requires.next in
    let done : is_pending c.append.new.self ≡ false = search rules in
    entered_after d at.disk at.journal at.image at.waiting c.self.invariant idle c.put.new.disk bytes c.end.result end c.put.ensures.writes c.put.ensures.any_moment c.append.new.disk c.append.ensures.others c.args.cmd enters c.args.piece.now c.requires.named piece c.in_ok-put.ensures.held c.append.new.self c.args.framed.now c.requires.spelled c.append.ensures.slot c.in_ok-put.ensures.limit c.args.next next done c.in-Ok.ensures.acknowledged

pub invariant_of-self-in-Ok-2 : goal.invariant_of-self-in-Ok-2
invariant_of-self-in-Ok-2 g c =
    let d = g.D.Disk in let at = c.self.inside in
    let idle = rw (← c.self.view_is) at c.requires.idle in let bytes = c.args.content.now in
    let end : c.end.result ≡ end_in (state_of at.image) = search rules in
    let enters = rw (← c.self.view_is) at c.requires.enters in let piece = rw (← c.self.view_is) at c.requires.piece in
    let next = rw (← c.self.view_is) at c.requires.next in
    let done : is_pending c.append.new.self ≡ false = search rules in
    entered_after d at.disk at.journal at.image at.waiting c.self.invariant idle c.put.new.disk bytes c.end.result end c.put.ensures.writes c.put.ensures.any_moment c.append.new.disk c.append.ensures.others c.args.cmd enters c.args.piece.now c.requires.named piece c.in_ok-put.ensures.held c.append.new.self c.args.framed.now c.requires.spelled c.append.ensures.slot c.in_ok-put.ensures.limit c.args.next next done c.in-Ok.ensures.acknowledged

pub returns-in-Ok-clause-stored : goal.returns-in-Ok-clause-stored
returns-in-Ok-clause-stored g c =
    let d = g.D.Disk in let at = c.self.inside in
    let idle = rw (← c.self.view_is) at c.requires.idle in let bytes = c.args.content.now in
    let end : c.end.result ≡ end_in (state_of at.image) = search rules in
    let after : Opened g.row.D.Denot = record { disk = c.append.new.disk; image = c.args.next; waiting = at.waiting } in
    let self : c.match-cmd-2.self ≡ after = elim c.match-cmd-2.branch [ in-MakeFolder-3 w ↦ w.self-is | in-Upload-3 w ↦ w.self-is ] in
    rw self (rw (← c.self.view_is) (λ told. begins_after d at.disk at.journal at.image at.waiting c.self.invariant idle c.put.new.disk bytes c.end.result end c.put.ensures.writes c.put.ensures.any_moment c.append.new.disk c.append.ensures.others c.in_ok-put.ensures.bytes told))

pub returns-in-Ok-clause-below : goal.returns-in-Ok-clause-below
returns-in-Ok-clause-below g c =
    let d = g.D.Disk in let at = c.self.inside in
    let idle = rw (← c.self.view_is) at c.requires.idle in let bytes = c.args.content.now in
    let end : c.end.result ≡ end_in (state_of at.image) = search rules in
    let after : Opened g.row.D.Denot = record { disk = c.append.new.disk; image = c.args.next; waiting = at.waiting } in
    let self : c.match-cmd-2.self ≡ after = elim c.match-cmd-2.branch [ in-MakeFolder-3 w ↦ w.self-is | in-Upload-3 w ↦ w.self-is ] in
    rw self (rw (← c.self.view_is) (λ told. same_after d at.disk at.journal at.image at.waiting c.self.invariant idle c.put.new.disk bytes c.end.result end c.put.ensures.writes c.put.ensures.any_moment c.append.new.disk c.append.ensures.others told))

pub returns-in-Ok-clause-kept : goal.returns-in-Ok-clause-kept
returns-in-Ok-clause-kept g c = λ told.
    let d = g.D.Disk in let at = c.self.inside in
    let idle = rw (← c.self.view_is) at c.requires.idle in let bytes = c.args.content.now in
    let end : c.end.result ≡ end_in (state_of at.image) = search rules in
    let enters = rw (← c.self.view_is) at c.requires.enters in let piece = rw (← c.self.view_is) at c.requires.piece in
    let next = rw (← c.self.view_is) at c.requires.next in
    let done : is_pending c.append.new.self ≡ false = search rules in
    let after : Opened g.row.D.Denot = record { disk = c.append.new.disk; image = c.args.next; waiting = at.waiting } in
    let self : c.match-cmd-2.self ≡ after = elim c.match-cmd-2.branch [ in-MakeFolder-3 w ↦ w.self-is | in-Upload-3 w ↦ w.self-is ] in
    let sound = entered_after d at.disk at.journal at.image at.waiting c.self.invariant idle c.put.new.disk bytes c.end.result end c.put.ensures.writes c.put.ensures.any_moment c.append.new.disk c.append.ensures.others c.args.cmd enters c.args.piece.now c.requires.named piece c.in_ok-put.ensures.held c.append.new.self c.args.framed.now c.requires.spelled c.append.ensures.slot c.in_ok-put.ensures.limit c.args.next next done c.in-Ok.ensures.acknowledged in
    rw self (sound_kept d c.append.new.disk c.append.new.self c.args.next at.waiting told sound)

pub returns-in-Ok-clause-any_moment : goal.returns-in-Ok-clause-any_moment
returns-in-Ok-clause-any_moment g c =
    let d = g.D.Disk in let at = c.self.inside in
    let idle = rw (← c.self.view_is) at c.requires.idle in let bytes = c.args.content.now in
    let end : c.end.result ≡ end_in (state_of at.image) = search rules in
    let enters = rw (← c.self.view_is) at c.requires.enters in let piece = rw (← c.self.view_is) at c.requires.piece in
    let after : Opened g.row.D.Denot = record { disk = c.append.new.disk; image = c.args.next; waiting = at.waiting } in
    let self : c.match-cmd-2.self ≡ after = elim c.match-cmd-2.branch [ in-MakeFolder-3 w ↦ w.self-is | in-Upload-3 w ↦ w.self-is ] in
    rw self (rw (← c.self.view_is) (λ told. around_after d at.disk at.journal at.image at.waiting c.self.invariant idle c.put.new.disk bytes c.end.result end c.put.ensures.writes c.put.ensures.any_moment c.append.new.disk c.append.ensures.others c.args.cmd enters c.args.piece.now c.requires.named piece c.in_ok-put.ensures.held c.args.framed.now c.requires.spelled told (c.append.ensures.any_moment told)))

pub invariant_of-self-then-not-pending : goal.invariant_of-self-then-not-pending
invariant_of-self-then-not-pending g c =
    let d = g.D.Disk in let at = c.self.inside in
    let idle = rw (← c.self.view_is) at c.requires.idle in let bytes = c.args.content.now in
    let end : c.end.result ≡ end_in (state_of at.image) = search rules in
    let enters = rw (← c.self.view_is) at c.requires.enters in let piece = rw (← c.self.view_is) at c.requires.piece in
    let done : is_pending c.append.new.self ≡ false = search rules in
    faulted_after d at.disk at.journal at.image at.waiting c.self.invariant idle c.put.new.disk bytes c.end.result end c.put.ensures.writes c.put.ensures.any_moment c.append.new.disk c.append.ensures.others c.args.cmd enters c.args.piece.now c.requires.named piece c.in_ok-put.ensures.held c.append.new.self c.args.framed.now c.requires.spelled c.append.ensures.slot done c.in-Err-Disk.ensures.fault

pub returns-then-not-pending-clause-below : goal.returns-then-not-pending-clause-below
returns-then-not-pending-clause-below g c =
    let d = g.D.Disk in let at = c.self.inside in
    let idle = rw (← c.self.view_is) at c.requires.idle in let bytes = c.args.content.now in
    let end : c.end.result ≡ end_in (state_of at.image) = search rules in
    rw (← c.self.view_is) (λ told. same_after d at.disk at.journal at.image at.waiting c.self.invariant idle c.put.new.disk bytes c.end.result end c.put.ensures.writes c.put.ensures.any_moment c.append.new.disk c.append.ensures.others told)

pub returns-then-not-pending-clause-kept : goal.returns-then-not-pending-clause-kept
returns-then-not-pending-clause-kept g c = λ told. sound_kept g.D.Disk c.append.new.disk c.append.new.self c.self.inside.image c.self.inside.waiting told (invariant_of-self-then-not-pending g c)

pub returns-then-not-pending-clause-any_moment : goal.returns-then-not-pending-clause-any_moment
returns-then-not-pending-clause-any_moment g c =
    let d = g.D.Disk in let at = c.self.inside in
    let idle = rw (← c.self.view_is) at c.requires.idle in let bytes = c.args.content.now in
    let end : c.end.result ≡ end_in (state_of at.image) = search rules in
    let enters = rw (← c.self.view_is) at c.requires.enters in let piece = rw (← c.self.view_is) at c.requires.piece in
    rw (← c.self.view_is) (λ told. around_after d at.disk at.journal at.image at.waiting c.self.invariant idle c.put.new.disk bytes c.end.result end c.put.ensures.writes c.put.ensures.any_moment c.append.new.disk c.append.ensures.others c.args.cmd enters c.args.piece.now c.requires.named piece c.in_ok-put.ensures.held c.args.framed.now c.requires.spelled told (c.append.ensures.any_moment told))

pub returns-then-not-pending-clause-unwritten : goal.returns-then-not-pending-clause-unwritten
returns-then-not-pending-clause-unwritten g c =
    let d = g.D.Disk in let at = c.self.inside in
    let idle = rw (← c.self.view_is) at c.requires.idle in let bytes = c.args.content.now in
    let end : c.end.result ≡ end_in (state_of at.image) = search rules in
    let done : is_pending c.append.new.self ≡ false = search rules in
    rw (← c.self.view_is) (λ none told. unopened_after d at.disk at.journal at.image at.waiting c.self.invariant idle c.put.new.disk bytes c.end.result end c.put.ensures.writes c.put.ensures.any_moment c.append.new.disk c.append.ensures.others told (c.in-Err-Disk.ensures.unopened done told))

pub returns-then-not-pending-clause-left : goal.returns-then-not-pending-clause-left
returns-then-not-pending-clause-left g c =
    let at = c.self.inside in
    let idle = rw (← c.self.view_is) at c.requires.idle in
    rw (← c.self.view_is) (λ waits told. absurd (idle_waits at.waiting idle waits))

pub invariant_of-self-in-Err-1 : goal.invariant_of-self-in-Err-1
invariant_of-self-in-Err-1 g c =
    let d = g.D.Disk in let at = c.self.inside in
    let idle = rw (← c.self.view_is) at c.requires.idle in let bytes = c.args.content.now in
    let end : c.end.result ≡ end_in (state_of at.image) = search rules in
    let enters = rw (← c.self.view_is) at c.requires.enters in let piece = rw (← c.self.view_is) at c.requires.piece in
    let waits : is_pending c.append.new.self ≡ true = search rules in
    waiting_after d at.disk at.journal at.image at.waiting c.self.invariant idle c.put.new.disk bytes c.end.result end c.put.ensures.writes c.put.ensures.any_moment c.append.new.disk c.append.ensures.others c.args.cmd enters c.args.piece.now c.requires.named piece c.in_ok-put.ensures.held c.append.new.self c.args.framed.now c.requires.spelled c.append.ensures.slot waits c.in-Err-Disk.ensures.fault

pub returns-else-not-pending-clause-left : goal.returns-else-not-pending-clause-left
returns-else-not-pending-clause-left g c =
    let d = g.D.Disk in let at = c.self.inside in
    let idle = rw (← c.self.view_is) at c.requires.idle in let bytes = c.args.content.now in
    let end : c.end.result ≡ end_in (state_of at.image) = search rules in
    rw (← c.self.view_is) (λ waits told. begins_after d at.disk at.journal at.image at.waiting c.self.invariant idle c.put.new.disk bytes c.end.result end c.put.ensures.writes c.put.ensures.any_moment c.append.new.disk c.append.ensures.others c.in_ok-put.ensures.bytes told)

pub returns-else-not-pending-clause-below : goal.returns-else-not-pending-clause-below
returns-else-not-pending-clause-below g c =
    let d = g.D.Disk in let at = c.self.inside in
    let idle = rw (← c.self.view_is) at c.requires.idle in let bytes = c.args.content.now in
    let end : c.end.result ≡ end_in (state_of at.image) = search rules in
    rw (← c.self.view_is) (λ told. same_after d at.disk at.journal at.image at.waiting c.self.invariant idle c.put.new.disk bytes c.end.result end c.put.ensures.writes c.put.ensures.any_moment c.append.new.disk c.append.ensures.others told)

pub returns-else-not-pending-clause-kept : goal.returns-else-not-pending-clause-kept
returns-else-not-pending-clause-kept g c = λ told. sound_kept g.D.Disk c.append.new.disk c.append.new.self c.self.inside.image (Some c.args.cmd) told (invariant_of-self-in-Err-1 g c)

pub returns-else-not-pending-clause-any_moment : goal.returns-else-not-pending-clause-any_moment
returns-else-not-pending-clause-any_moment g c =
    let d = g.D.Disk in let at = c.self.inside in
    let idle = rw (← c.self.view_is) at c.requires.idle in let bytes = c.args.content.now in
    let end : c.end.result ≡ end_in (state_of at.image) = search rules in
    let enters = rw (← c.self.view_is) at c.requires.enters in let piece = rw (← c.self.view_is) at c.requires.piece in
    rw (← c.self.view_is) (λ told. around_after d at.disk at.journal at.image at.waiting c.self.invariant idle c.put.new.disk bytes c.end.result end c.put.ensures.writes c.put.ensures.any_moment c.append.new.disk c.append.ensures.others c.args.cmd enters c.args.piece.now c.requires.named piece c.in_ok-put.ensures.held c.args.framed.now c.requires.spelled told (c.append.ensures.any_moment told))
