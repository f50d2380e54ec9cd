-- The types of a group may cross threads.
use denote.RattleType.{RattleType}
use denote.Param.Send.{IsSend, sendable}
use denote.Struct.Field
use Rattle.std.proofs.Crossing.{crosses}
use Rattle.std.proofs.MapsCrossing.{crosses as maps}
use Rattle.list_structure.proofs.lists.Lists.TheSendSync.{the_send as lists}
use Rattle.script_fates.proofs.fates.Fates.TheSendSync.{the_send as fates}
use Rattle.ds_model.proofs.script.Script.TheSendSync.{the_field_send as script_field}
use Rattle.group_restart.proofs.machine.GroupRestart.TheSendSync.{the_send as group_restart}
use Rattle.script_phases.proofs.progress.Progress.TheSendSync.{the_field_send as progress_field}
use Rattle.facility.specs.contracts.facility.Facility as Facility
use Rattle.group_core.proofs.Crossing.{known_ends, line, rebuilding, restarting, sizes_field}
use Rattle.group_core.proofs.Crossing.Resources as Resources
use Rattle.group_core.proofs.Crossing.MemberPart as MemberPart
use Rattle.group_core.proofs.Crossing.Crew as Crew
use Rattle.group_core.specs.contracts.group.Group as Group
use Rattle.group_crossing.proofs.Recorded.{structure_send as lock_structure}
use Rattle.group_crossing.proofs.Marked.{marks_send as marks}

pub resources : IsSend Resources.the_row
resources = search (marks, sendable, crosses, maps) depth 400 fits 200000

abbrev pub IsSendField : denote.Struct.Field.Field → Type 0
IsSendField f = IsSend f.row

pub part_field : (P : RattleType) → IsSend P → IsSendField (MemberPart.the_field P)
part_field P p = search (resources, restarting, rebuilding, known_ends, sendable, crosses) depth 400 fits 200000

pub facility_field : (C : RattleType) → IsSend C → IsSendField (Facility.the_field C)
facility_field C c = search (lock_structure, lists, sendable, crosses) depth 400 fits 200000

pub crew : (C P : RattleType) → IsSend C → IsSend P → IsSendField (Crew.the_field C P)
crew C P c p = search (facility_field, part_field, script_field, progress_field, group_restart, fates, sizes_field, sendable, crosses) depth 400 fits 200000

pub group : (D C P : RattleType) → IsSend D → IsSend C → IsSend P → IsSendField (Group.the_field D C P)
group D C P d c p = search (crew, line, sendable, crosses) depth 400 fits 200000
