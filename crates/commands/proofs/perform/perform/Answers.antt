use Rattle.commands.proofs.perform.perform.Goals as goal

pub returns-in-Solo-clause-over : goal.returns-in-Solo-clause-over
returns-in-Solo-clause-over g c = rw c.in-Solo.is c.perform_solo.ensures.ran

pub returns-in-Solo-clause-uncatalogued : goal.returns-in-Solo-clause-uncatalogued
returns-in-Solo-clause-uncatalogued g c = rw c.in-Solo.is c.perform_solo.ensures.uncatalogued

pub returns-in-Solo-clause-idle : goal.returns-in-Solo-clause-idle
returns-in-Solo-clause-idle g c = rw c.in-Solo.is c.perform_solo.ensures.idle

pub returns-in-Solo-clause-unread : goal.returns-in-Solo-clause-unread
returns-in-Solo-clause-unread g c = rw c.in-Solo.is c.perform_solo.ensures.unread

pub returns-in-Check-clause-opened : goal.returns-in-Check-clause-opened
returns-in-Check-clause-opened g c = rw c.in-Check.is c.perform_check.ensures.opened

pub returns-in-Check-clause-unread : goal.returns-in-Check-clause-unread
returns-in-Check-clause-unread g c = rw c.in-Check.is c.perform_check.ensures.unread

pub returns-in-Plan-clause-opened : goal.returns-in-Plan-clause-opened
returns-in-Plan-clause-opened g c = rw c.in-Plan.is c.perform_plan.ensures.opened

pub returns-in-Plan-clause-unread : goal.returns-in-Plan-clause-unread
returns-in-Plan-clause-unread g c = rw c.in-Plan.is c.perform_plan.ensures.unread

pub returns-clause-over : goal.returns-clause-over
returns-clause-over g c = rw c.in-Play.is c.perform_play.ensures.played

pub returns-clause-uncatalogued : goal.returns-clause-uncatalogued
returns-clause-uncatalogued g c = rw c.in-Play.is c.perform_play.ensures.uncatalogued

pub returns-clause-idle : goal.returns-clause-idle
returns-clause-idle g c = rw c.in-Play.is c.perform_play.ensures.idle

pub returns-clause-unread : goal.returns-clause-unread
returns-clause-unread g c = rw c.in-Play.is c.perform_play.ensures.unread
