mod Stamps
