use Rattle.std.proofs.Common.{None, Some, option_map}
use Rattle.fh_model.specs.History.{state_of}
use Rattle.session_rules.specs.Decisions.{refused, calls}
use Rattle.session_rules.specs.Judged.{fault_said}
use Rattle.session_http.proofs.Callers.{calls_bearer, calls_still}
use Rattle.session_http.proofs.answering.find_caller.Goals as goal

pub returns-in-Refused-clause-calls : goal.returns-in-Refused-clause-calls
returns-in-Refused-clause-calls g c =
    let P = g.P.View in
    let seen = P.seen c.args.port.now in
    let head = c.args.head.now in
    calls_still P.alone c.args.admin.now seen head.method.items head.target.items (option_map (λ token. token.items) head.token)
    (refused (fault_said c.in-Refused.fault)) (c.in-Refused.ensures (state_of seen))

pub returns-in-User-clause-calls : goal.returns-in-User-clause-calls
returns-in-User-clause-calls g c =
    let P = g.P.View in
    let seen = P.seen c.args.port.now in
    let head = c.args.head.now in
    calls_still P.alone c.args.admin.now seen head.method.items head.target.items (option_map (λ token. token.items) head.token)
    (calls c.in-User.route c.in-User.user) (c.in-User.ensures (state_of seen))

pub returns-in-Ok-Some-clause-calls : goal.returns-in-Ok-Some-clause-calls
returns-in-Ok-Some-clause-calls g c =
    let P = g.P.View in
    let head = c.args.head.now in
    let now = P.seen c.find_user.new.port in
    calls_bearer P.alone c.args.admin.now (P.seen c.args.port.now) now head.method.items head.target.items
    (option_map (λ token. token.items) head.token) c.in-Bearer.route (Some c.in-Ok-Some.user) c.find_user.ensures.point (c.in-Bearer.ensures (state_of now))
    (rw c.in-Ok-Some.field-0-is at c.in-Ok-Some.ensures.user)

pub returns-in-Ok-None-clause-calls : goal.returns-in-Ok-None-clause-calls
returns-in-Ok-None-clause-calls g c =
    let P = g.P.View in
    let head = c.args.head.now in
    let now = P.seen c.find_user.new.port in
    calls_bearer P.alone c.args.admin.now (P.seen c.args.port.now) now head.method.items head.target.items
    (option_map (λ token. token.items) head.token) c.in-Bearer.route None c.find_user.ensures.point (c.in-Bearer.ensures (state_of now))
    (rw c.in-Ok-None.field-0-is at c.in-Ok-None.ensures.user)
