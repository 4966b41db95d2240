mod Runnings
