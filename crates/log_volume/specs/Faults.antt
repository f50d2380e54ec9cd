-- A disk's fault as a log's.
use Rattle.ds_disk.specs.declared.disk.DiskError.{DiskError}
use Rattle.ds_disk.specs.declared.disk.DiskError.TheVariants as errors
use Rattle.log_volume.specs.declared.fault.LogFault.{LogFault}
use Rattle.log_volume.specs.declared.fault.LogFault.TheVariants as faults

abbrev pub fault_of : DiskError → LogFault
fault_of errors.Failed = faults.Failed
fault_of errors.NoMemory = faults.NoMemory
